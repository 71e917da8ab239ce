-- Buffers that hold a book, settled: what the packings of a book give to the two steps, and what the steps leave. Assumes nothing.
use Prim.Native.Nat.{ℕ, ◌*◌, ◌≤◌}
use mathlib.Core.Path.{◌≡◌, sym, ap, ◌∙◌}
use mathlib.Core.List.{List, ◌++◌}
use mathlib.Core.Bool.{Bool, true, false}
use lib.ListN.{length, drop, take}
use lib.Seq.{length-take-le}
use Rattle.packing.specs.Padding.{all_zero, pad, zeros}
use Rattle.lists.specs.Each.{every}
use Rattle.packing.specs.Tables.{rows, things}
use Rattle.packing.proofs.PaddingLaws.{front-cleared, pad_rest}
use Rattle.packing.proofs.Packings.{is_packs, rows_are}
use Rattle.book.specs.declared.Counts.{Counts}
use Rattle.book.specs.Edits.{stands}
use Rattle.book.specs.Layout.{Buffers, counts_of, counts_with, edit_form, edit_width, five, frame_of, laid_out, line_form, line_width}
use Rattle.book.specs.View.{book_of, laid}
use Rattle.book.proofs.Forms.{edit_laws, line_laws}
use Rattle.book.proofs.Views.{laid-buffers, laid-counts, laid-packs}
use Rattle.std.specs.Prelude.{Ok}
use Rattle.trial.specs.Changes.{Makes, after, edited, to}
use Rattle.trial.specs.Trial.{settled}
use Rattle.trial_settle.specs.Lines.{Packed, Settled}
use Rattle.trial_settle.specs.declared.settling.Standing.{Standing}

module _ (c : Counts) (b : Buffers) (g : laid c b ≡ true) where
  pub lines-room : line_width * c.lines ≤ length b.lines
  unfolding line_form
  lines-room = (laid-packs c b g).lines.rowroom

  pub journal-room : edit_width * c.edits ≤ length b.journal
  unfolding edit_form
  journal-room = (laid-packs c b g).edits.rowroom

  -- the rows of the edits, as a part of the journal, are as many numbers
  pub journal-part : edit_width * c.edits ≡ length (take (edit_width * c.edits) b.journal)
  journal-part = sym (length-take-le (edit_width * c.edits) b.journal journal-room)

  pub lines-asked : Packed c.lines b.lines b.pool
  lines-asked =
      let t = laid-packs c b g in
      record {
        frame = frame_of c;
        total = c.pool;
        few_lines = t.limits.lines;
        few_bytes = t.limits.pool;
        lines = (is_packs (line_laws (frame_of c)) t.lines).0;
      }

  -- none is struck, and nothing is changed
  pub settle_none : (x : Bool) → x ≡ every stands (things line_form c.lines b.lines b.pool) → x ≡ true
      → Makes c b (λ b w. to (settled w)) (Ok c) b
  unfolding settled book_of edited after
  settle_none x e s =
      let q : settled (book_of c b) ≡ book_of c b = rw (← e, s) in
      (ap Ok (laid-counts c b g ∙ ap counts_of (sym q)), laid-buffers c b g ∙ ap (laid_out b) (sym q))

  journal-zero : all_zero (drop (edit_width * c.edits) b.journal) ≡ true
  unfolding edit_form
  journal-zero =
      let t = (laid-packs c b g).edits in
      let es = (book_of c b).edits in
      ap (λ (j : List ℕ). all_zero (drop (edit_width * c.edits) j)) t.lined
      ∙ ap (λ (k : ℕ). all_zero (drop k (pad (length b.journal) (rows edit_form 0 es)))) (rows_are edit_laws t)
      ∙ pad_rest (length b.journal) (rows edit_form 0 es)

  -- the lines that stand are packed, and the journal, whose edits' rows ys are cleared, is empty
  pub settle-done : (x : Bool) (r : Standing) (d : Counts) (l' p' ys : List ℕ)
      → x ≡ every stands (things line_form c.lines b.lines b.pool) → x ≡ false
      → Settled c.lines b.lines b.pool l' p' r → ys ≡ zeros (length (take (edit_width * c.edits) b.journal))
      → d ≡ counts_with c r.lines r.pool 0
      → Makes c b (λ b w. to (settled w)) (Ok d) (five b.nodes b.names l' p' (ys ++ drop (edit_width * c.edits) b.journal))
  unfolding settled book_of counts_of laid_out rows edited after
  settle-done x r d l' p' ys e s a q k =
      let t = laid-packs c b g in
      let j = front-cleared b.journal (edit_width * c.edits) journal-room journal-zero q in
      rw (← e, s, k) (
        λ i. Ok (record { kind = c.kind; nodes = t.nodes.count i; names = t.nodes.total i; lines = a.lines i; pool = a.pool i; edits = 0 }),
        λ i. record { nodes = t.nodes.lined i; names = t.nodes.pooled i; lines = a.lined i; pool = a.pooled i; journal = j i },
      )
