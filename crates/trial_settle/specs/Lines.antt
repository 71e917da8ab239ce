-- What packing the lines that stand asks of the lent rows and bytes, and what it leaves in them. Assumes nothing.
use Rattle.std.specs.Prelude.{ℕ, ◌≤◌, ◌≡◌, List, true, length}
use Rattle.numbers.specs.Limits.{line_limit, pool_limit}
use Rattle.packing.specs.Padding.{pad}
use Rattle.packing.specs.Tables.{packed, packs, rows, things}
use Rattle.book.specs.declared.Frame.{Frame}
use Rattle.book.specs.Layout.{line_form}
use Rattle.book.specs.Sanity.{line_ok}
use Rattle.trial.specs.Trial.{standing}
use Rattle.trial_settle.specs.declared.settling.Standing.{Standing}

-- n rows in l and their bytes in p are the lines of some book
pub record Packed (n : ℕ) (l p : List ℕ) : Type 0 where
  pub frame : Frame
  pub total : ℕ
  pub few_lines : n ≤ line_limit
  pub few_bytes : total ≤ pool_limit
  pub lines : packs line_form (line_ok frame) n total l p ≡ true

-- l' and p' hold those of them that stand, and r counts them: "packs and renumbers the rest in order"
pub record Settled (n : ℕ) (l p l' p' : List ℕ) (r : Standing) : Type 0 where
  pub lines : r.lines ≡ length (standing (things line_form n l p))
  pub pool : r.pool ≡ length (packed line_form (standing (things line_form n l p)))
  pub lined : l' ≡ pad (length l) (rows line_form 0 (standing (things line_form n l p)))
  pub pooled : p' ≡ pad (length p) (packed line_form (standing (things line_form n l p)))
