-- What the buffers of a book hold, put one behind the other by `show_dump`: the room that is left for each. Assumes nothing.
use Prim.Native.Nat.{ℕ, ◌+◌, ◌*◌, ◌≤◌}
use mathlib.Core.Path.{◌≡◌, ap, subst, ◌∙◌}
use mathlib.Core.Bool.{true}
use mathlib.Core.List.{List, [], ◌∷◌, ◌++◌, append_assoc}
use native.Mathlib.Omega.{arith}
use lib.ListN.{length, take, length-append}
use Rattle.lists.specs.Texts.{codes}
use Rattle.lists.proofs.Tests.{both}
use Rattle.book.specs.declared.Counts.{Counts}
use Rattle.book.specs.Layout.{Buffers, edit_form, line_form, line_width, node_form}
use Rattle.book.specs.Sanity.{sane}
use Rattle.book.specs.View.{book_of, holds, laid}
use Rattle.book.proofs.Views.{laid-packs}
use Rattle.printing.specs.Printing.{Begins, Puts}
use Rattle.printing.proofs.Pieces.{begins, puts-both}
use Rattle.printing_book.specs.Shown.{buffer_shown, dump_shown, shown_room}
use Rattle.printing_book.proofs.Pieces.{Placed, behind, lines_word, names_word, nodes_word, placed, pool_word}
use Rattle.printing_book.proofs.Numbers.{Bytes, all_buffer, all_byte_buffer, few_buffer, few_byte_buffer}

-- the parts that a book uses lie within its buffers
pub record Used (c : Counts) (b : Buffers) : Type 0 where
  pub nodes : 3 * c.nodes ≤ length b.nodes
  pub names : c.names ≤ length b.names
  pub lines : line_width * c.lines ≤ length b.lines
  pub pool : c.pool ≤ length b.pool
  pub journal : 2 * c.edits ≤ length b.journal

pub used : (c : Counts) (b : Buffers) → holds c b ≡ true → Used c b
unfolding holds node_form line_form edit_form
used c b e =
    let g = both (laid c b) (sane (book_of c b)) e in
    let t = laid-packs c b g.0 in
    record {
      nodes = t.nodes.rowroom;
      names = t.nodes.byteroom;
      lines = t.lines.rowroom;
      pool = t.lines.byteroom;
      journal = t.edits.rowroom;
    }

abbrev pub journal_word : List ℕ
journal_word = 106 ∷ 111 ∷ 117 ∷ 114 ∷ 110 ∷ 97 ∷ 108 ∷ []

-- two lines that stand side by side
abbrev pub pair : List ℕ → ℕ → List ℕ → List ℕ → ℕ → List ℕ → List ℕ
pair word n l second m bytes = buffer_shown word (take n l) ++ buffer_shown second (take m bytes)

module _ (d : List ℕ) (at : ℕ) (word : List ℕ) (n : ℕ) (l : List ℕ) (second : List ℕ) (m : ℕ) (bytes : List ℕ) where
  abbrev both_lines : List ℕ
  both_lines = pair word n l second m bytes

  pub pair-placed : {d₁ : List ℕ} {r : ℕ} → at + (length word + 11 * n + 1) + (length second + 4 * m + 9) ≤ length d → Bytes bytes → Puts d at both_lines d₁ r
      → Placed d at (length word + 11 * n + 1 + (length second + 4 * m + 1)) both_lines d₁ r
  pair-placed room f p =
      let k = length-append (buffer_shown word (take n l)) (buffer_shown second (take m bytes)) in
      placed d at _ both_lines (omega (arith, few_buffer word n l, few_byte_buffer second m bytes f)) (omega (arith, room)) p

pub pair_put : (d : List ℕ) (at : ℕ) (word l second bytes : List ℕ) {d₁ d₂ : List ℕ} {e r : ℕ}
    → at + (length word + 11 * length l + 1) + (length second + 4 * length bytes + 9) ≤ length d → Bytes bytes
    → Puts d at (buffer_shown word l) d₁ e → Puts d₁ e (buffer_shown second bytes) d₂ r → Puts d at (buffer_shown word l ++ buffer_shown second bytes) d₂ r
pair_put d at word l second bytes room f p q =
    puts-both d at (buffer_shown word l) (buffer_shown second bytes) (omega (arith, all_buffer word 0 l, all_byte_buffer second 0 bytes f)) p q

-- what is known of the book, and of the room in d
pub record Ready (c : Counts) (b : Buffers) (d : List ℕ) : Type 0 where
  pub held : Used c b
  pub ample : 128 + (33 * c.nodes + (4 * c.names + (89 * c.lines + (4 * c.pool + 22 * c.edits)))) ≤ length d
  pub names : Bytes b.names
  pub pool : Bytes b.pool

pub readied : (c : Counts) (b : Buffers) (d : List ℕ) → shown_room c ≤ length d → holds c b ≡ true → Bytes b.names → Bytes b.pool → Ready c b d
unfolding shown_room
readied c b d room e f g = record { held = used c b e; ample = room; names = f; pool = g }

-- the five lines: two pairs, and the journal's
module _ {c : Counts} {b : Buffers} {d : List ℕ} (k : Ready c b d) where
  abbrev nodes_pair : List ℕ
  nodes_pair = pair nodes_word (3 * c.nodes) b.nodes names_word c.names b.names

  abbrev lines_pair : List ℕ
  lines_pair = pair lines_word (line_width * c.lines) b.lines pool_word c.pool b.pool

  pub nodes-room : 0 + (5 + 11 * (3 * c.nodes) + 1) + (5 + 4 * c.names + 9) ≤ length d
  nodes-room = omega (arith, k.ample)

  module _ {d₁ : List ℕ} {e₁ : ℕ} (p₁ : Puts d 0 nodes_pair d₁ e₁) where
    nodes-placed : Placed d 0 (12 + (33 * c.nodes + 4 * c.names)) nodes_pair d₁ e₁
    nodes-placed =
        let q = pair-placed d 0 nodes_word (3 * c.nodes) b.nodes names_word c.names b.names nodes-room k.names p₁ in
        placed d 0 _ nodes_pair (omega (arith, q.few)) (omega (arith, k.ample)) p₁

    pub lines-room : e₁ + (5 + 11 * (line_width * c.lines) + 1) + (4 + 4 * c.pool + 9) ≤ length d₁
    lines-room = let q₁ = nodes-placed in omega (arith, k.ample)

    module _ {d₂ : List ℕ} {e₂ : ℕ} (p₂ : Puts d₁ e₁ lines_pair d₂ e₂) where
      lines-placed : Placed d₁ e₁ (11 + (55 * c.lines + 4 * c.pool)) lines_pair d₂ e₂
      lines-placed =
          let q = pair-placed d₁ e₁ lines_word (line_width * c.lines) b.lines pool_word c.pool b.pool lines-room k.pool p₂ in
          placed d₁ e₁ _ lines_pair (omega (arith, q.few)) (omega (arith, lines-room)) p₂

      pub journal-room : e₂ + 7 + 11 * (2 * c.edits) + 1 ≤ length d₂
      journal-room = let q₁ = nodes-placed in let q₂ = lines-placed in omega (arith, k.ample)

      module _ {d₃ : List ℕ} {r : ℕ} (p₃ : Puts d₂ e₂ (buffer_shown journal_word (take (2 * c.edits) b.journal)) d₃ r) where
        abbrev journal_line : List ℕ
        journal_line = buffer_shown journal_word (take (2 * c.edits) b.journal)

        journal-placed : Placed d₂ e₂ (8 + 22 * c.edits) journal_line d₃ r
        journal-placed = placed d₂ e₂ _ _ (omega (arith, few_buffer journal_word (2 * c.edits) b.journal)) (omega (arith, journal-room)) p₃

        dump_placed : Placed d 0 (12 + (33 * c.nodes + 4 * c.names) + (11 + (55 * c.lines + 4 * c.pool) + (8 + 22 * c.edits)))
            (nodes_pair ++ (lines_pair ++ journal_line)) d₃ r
        dump_placed = behind nodes-placed (behind lines-placed journal-placed)

        pub dump_put : Begins d (dump_shown c b) d₃ r
        unfolding dump_shown codes
        dump_put =
            let x = buffer_shown nodes_word (take (3 * c.nodes) b.nodes) in
            let y = buffer_shown names_word (take c.names b.names) in
            let z : nodes_pair ++ (lines_pair ++ journal_line) ≡ dump_shown c b =
            append_assoc x y (lines_pair ++ journal_line)
            ∙ ap (λ (t : List ℕ). x ++ (y ++ t))
            (append_assoc (buffer_shown lines_word (take (line_width * c.lines) b.lines)) (buffer_shown pool_word (take c.pool b.pool)) journal_line) in
            begins d (dump_shown c b) (subst (λ (t : List ℕ). Puts d 0 t d₃ r) z dump_placed.put)

        pub dump_long : length d₃ ≡ length d
        dump_long = dump_placed.long
