-- What is printed of why a name is answered as it is: the exits of `put_why_line`, `ask_why` and `render_why`. d is the buffer that was lent for it.
-- Assumes nothing.
use Prim.Native.Nat.{ℕ, ◌+◌, ◌≤◌, ◌<◌}
use mathlib.Core.Path.{◌≡◌}
use mathlib.Core.List.{List}
use mathlib.Core.Bool.{Bool, true, not}
use Rattle.std.specs.Prelude.{Option, Ok, Err}
use Rattle.numbers.specs.declared.Refusal.{Refusal}
use Rattle.numbers.specs.Saying.{number}
use lib.ListN.{length, get_or}
use Rattle.numbers.specs.Refusals.{no_book}
use Rattle.lists.specs.Texts.{codes}
use Rattle.packing.specs.Tables.{packs, things}
use Rattle.book.specs.declared.Counts.{Counts}
use Rattle.book.specs.Books.{Node, no_node}
use Rattle.book.specs.Layout.{Buffers, node_form}
use Rattle.book.specs.View.{any_node, book_of, holds, view}
use Rattle.book.proofs.Asking.{asked_none, held-book}
use Rattle.ranking.specs.Matching.{name_of}
use Rattle.reasons.specs.declared.Reason.{Reason}
use Rattle.reasons.specs.declared.Why.{Why}
use Rattle.reasons.specs.declared.Why.TheVariants as why
use Rattle.reasons.specs.Why.{WhyAnswer, why_asked}
use Rattle.printing.specs.Printing.{Begins, refused_fields}
use Rattle.printing_why.specs.Splits.{asked_name, raw_name}
use Rattle.printing_why.specs.WhyLine.{answer_line, reason_told, why_fields, why_line}
use Rattle.printing_why.specs.Whys.{asked_why, why_answered}
use Rattle.printing_why.proofs.NamedNodes.{held-node}

-- ---- the answers
module _ (d s : List ℕ) (xs : List Node) (name : List ℕ) {y : Why} {l : List ℕ} {n : ℕ} where
  pub line-put : {r : Reason} → y ≡ why.Line r → (t : List ℕ) → t ≡ (get_or xs r.node no_node).name
      → Begins d (answer_line name (reason_told s t r)) l n → Begins d (why_line s xs name (Ok y)) l n
  unfolding why_line why_fields
  line-put e t f p = rw (e, ← f) p

  pub none_put : y ≡ why.NoLine → Begins d (answer_line name (codes "no line")) l n → Begins d (why_line s xs name (Ok y)) l n
  unfolding why_line why_fields
  none_put e p = rw e p

  pub wanted-put : y ≡ why.Wanted → Begins d (answer_line name (codes "wanted version")) l n → Begins d (why_line s xs name (Ok y)) l n
  unfolding why_line why_fields
  wanted-put e p = rw e p

module _ (d s : List ℕ) (xs : List Node) (name : List ℕ) {l : List ℕ} {n : ℕ} where
  pub refused-put : {a : WhyAnswer} {z : Refusal} → a ≡ Err z → Begins d (answer_line name (refused_fields (number z))) l n → Begins d (why_line s xs name a) l n
  unfolding why_line why_fields
  refused-put e p = rw e p

-- ---- `ask_why`
module _ (c : Counts) (b : Buffers) (h : holds c b ≡ true) (raw demangled : List ℕ) (v : Option (List ℕ)) (y : WhyAnswer)
    (e : y ≡ why_asked (view c b) (name_of raw demangled) v) where
  -- what is asked where the answer is put
  pub answer-asks : (d : List ℕ) → length raw + c.names + 128 ≤ length d
      → (packs node_form any_node c.nodes c.names b.nodes b.names ≡ true) × (length raw + c.names + 128 ≤ length d)
      × ((r : Reason) → y ≡ Ok (why.Line r) → r.node < c.nodes)
  answer-asks d room = ((held-book c b h).nodes, room, held-node c b h (name_of raw demangled) v y e)

  pub asked-put : (d s l : List ℕ) (n : ℕ) → Begins d (why_line s (things node_form c.nodes b.nodes b.names) raw y) l n
      → Begins d (asked_why s (view c b) (name_of raw demangled) v) l n
  unfolding asked_why book_of
  asked-put d s l n p = rw (← e, (held-book c b h).viewed) p

-- ---- no book
pub no_book-put : (c : Counts) (b : Buffers) (x : Bool) → x ≡ holds c b → not x ≡ true → (d s line name l : List ℕ) (n : ℕ) → name ≡ raw_name line
    → Begins d (answer_line name (refused_fields no_book)) l n → Begins d (why_answered s (view c b) line) l n
unfolding why_answered asked_why asked_name why_asked why_line why_fields
no_book-put c b x e h d s line name l n f p = rw (asked_none c b x e h, ← f) p
