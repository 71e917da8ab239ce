-- A line's fields and a line, put one behind the other: how much room they take. Assumes nothing.
use Prim.Native.Nat.{ℕ, ◌+◌, ◌≤◌}
use mathlib.Core.Path.{subst, ◌∙◌}
use mathlib.Core.List.{List, [], ◌∷◌, ◌++◌, append_assoc}
use native.Mathlib.Omega.{arith}
use lib.ListN.{length, length-append}
use Rattle.numbers.specs.Signs.{space}
use Rattle.book.specs.Books.{Line}
use Rattle.printing.specs.Printing.{Puts, decimal, spaced}
use Rattle.printing.proofs.Digits.{few-digits}
use Rattle.printing.proofs.Pieces.{few-spaced, line_end}
use Rattle.printing_book.specs.Shown.{fields_shown, line_shown}
use Rattle.printing_book.proofs.Pieces.{Placed, behind, number-placed, placed, six, text-placed}

-- ---- how much room
pub few-fields : (x : Line) → length (fields_shown x) ≤ 77
unfolding fields_shown
few-fields x =
    let a = few-spaced [] x.node in
    let b = few-spaced [] x.class in
    let c = few-spaced [] x.section in
    let d = few-spaced [] x.language in
    let e = few-spaced [] x.struck in
    let f = few-spaced [] (length x.bytes) in
    let g = few-spaced [] x.offset in
    simp length-append (omega arith)

pub few-line : (i : ℕ) (x : Line) → length (line_shown i x) ≤ 89 + length x.bytes
unfolding line_shown
few-line i x =
    let f = few-digits i in
    let g = few-fields x in
    simp length-append (omega arith)

-- ---- the fields as far as to one of them
module _ (x : Line) where
  abbrev pub to_node : List ℕ
  to_node = spaced [] x.node

  abbrev pub to_class : List ℕ
  to_class = to_node ++ spaced [] x.class

  abbrev pub to_section : List ℕ
  to_section = to_class ++ spaced [] x.section

  abbrev pub to_language : List ℕ
  to_language = to_section ++ spaced [] x.language

  abbrev pub to_struck : List ℕ
  to_struck = to_language ++ spaced [] x.struck

  abbrev pub to_length : List ℕ
  to_length = to_struck ++ spaced [] (length x.bytes)

  abbrev pub to_offset : List ℕ
  to_offset = to_length ++ spaced [] x.offset

  -- all of them
  pub fields-put : {d l : List ℕ} {at m r : ℕ} → Placed d at m to_offset l r → Puts d at (fields_shown x) l r
  unfolding fields_shown
  fields-put {d} {l} {at} {m} {r} p =
      subst (λ (t : List ℕ). Puts d at t l r)
      (append_assoc to_struck (spaced [] (length x.bytes)) (spaced [] x.offset)
      ∙ six to_node (spaced [] x.class) (spaced [] x.section) (spaced [] x.language) (spaced [] x.struck)
      (spaced [] (length x.bytes) ++ spaced [] x.offset)) p.put

-- ---- a line
module _ (d : List ℕ) (at : ℕ) (x : Line) (i : ℕ) {d₁ d₂ d₃ d₄ d₅ : List ℕ} {e₁ e₂ e₃ e₄ r : ℕ} where
  pub line-put : at + 89 + length x.bytes ≤ length d
      → Puts d at (decimal i) d₁ e₁
      → Puts d₁ e₁ (fields_shown x) d₂ e₂
      → Puts d₂ e₂ (space ∷ []) d₃ e₃
      → Puts d₃ e₃ x.bytes d₄ e₄
      → Puts d₄ e₄ line_end d₅ r → Puts d at (line_shown i x) d₅ r
  unfolding line_shown
  line-put room p₁ p₂ p₃ p₄ p₅ =
      let q₁ = number-placed d at i (omega arith) p₁ in
      let q₂ = placed d₁ e₁ 77 (fields_shown x) (few-fields x) (omega arith) p₂ in
      let q₃ = text-placed d₂ e₂ (space ∷ []) (omega arith) p₃ in
      let q₄ = text-placed d₃ e₃ x.bytes (omega arith) p₄ in
      let q₅ = text-placed d₄ e₄ line_end (omega arith) p₅ in
      (behind q₁ (behind q₂ (behind q₃ (behind q₄ q₅)))).put
