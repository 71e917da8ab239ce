-- The pieces of the line that says why, put one behind the other, and how much room they take. Assumes nothing.
use Prim.Native.Nat.{ℕ, ◌+◌, ◌-◌, ◌≤◌}
use mathlib.Core.Path.{◌≡◌}
use mathlib.Core.List.{List, [], ◌∷◌}
use mathlib.Core.Bool.{Bool, true, false, cond}
use native.Mathlib.Omega.{arith}
use borrow.Author.Tests.{eq-eqb, ne_eqb}
use lib.Dec.{eqb}
use lib.ListN.{length, length-append}
use Rattle.numbers.specs.Signs.{space}
use Rattle.lists.specs.Texts.{codes}
use Rattle.reasons.specs.declared.Reason.{Reason}
use Rattle.input.specs.declared.positions.Position.{Position}
use Rattle.input.specs.Positions.{position}
use Rattle.printing.specs.Printing.{Begins, Puts, decimal, spaced}
use Rattle.printing.proofs.Digits.{few-digits}
use Rattle.printing.proofs.Pieces.{begins, few-spaced, line_end, puts-nothing}
use Rattle.printing_book.proofs.Pieces.{behind, number-placed, placed, spaced-placed, text-placed}
use Rattle.printing_why.specs.WhyLine.{answer_line, class_word, head_told, language_word, marks_told, name_told, offset_told, place_told, position_told, reason_told, section_word}
use Rattle.printing_why.proofs.Words.{few-class, few-language, few-section}

-- ---- how much room
pub few_head : (r : Reason) → length (head_told r) ≤ 45
unfolding head_told codes
few_head r =
    let a = few-spaced (codes "line") r.line in
    let b = few-class r.class in
    let c = few-spaced (codes " node") r.node in
    simp length-append (omega arith)

pub few-name : (t : List ℕ) → length (name_told t) ≤ length t + 3
unfolding name_told codes
few-name t = simp length-append (omega arith)

pub few-marks : (r : Reason) → length (marks_told r) ≤ 32
unfolding marks_told codes
few-marks r =
    let a = few-section r.section in
    let b = few-language r.language in
    simp length-append (omega arith)

few-position : (q : Position) → length (position_told q) ≤ 25
unfolding position_told codes
few-position q =
    let a = few-spaced (codes " at") q.line in
    let b = few-digits q.column in
    simp length-append (omega arith)

pub few-place : (s : List ℕ) (o : ℕ) → length (place_told s o) ≤ 25
unfolding place_told
few-place s o = few (eqb o 0)
  where
    few : (v : Bool) → length (cond v [] (position_told (position s (o - 1)))) ≤ 25
    few true = omega arith
    few false = few-position (position s (o - 1))

pub few-offset : (s : List ℕ) (r : Reason) → length (offset_told s r) ≤ 43
unfolding offset_told codes
few-offset s r =
    let a = few-spaced (codes " offset") r.offset in
    let b = few-place s r.offset in
    simp length-append (omega arith)

pub few-reason : (s t : List ℕ) (r : Reason) → length (reason_told s t r) ≤ length t + 123
unfolding reason_told
few-reason s t r =
    let a = few_head r in
    let b = few-name t in
    let c = few-marks r in
    let e = few-offset s r in
    simp length-append (omega arith)

-- ---- the pieces
module _ (d : List ℕ) (at : ℕ) where
  -- an offset that tells no place
  pub no_place : (s : List ℕ) (o : ℕ) → o ≡ 0 → Puts d at (place_told s o) d at
  unfolding place_told
  no_place s o e = rw (eq-eqb o 0 e) (puts-nothing d at)

  module _ {d₁ d₂ : List ℕ} {a b : ℕ} where
    pub offset-put : (s : List ℕ) (r : Reason) → at + 43 ≤ length d
        → Puts d at (spaced (codes " offset") r.offset) d₁ a
        → Puts d₁ a (place_told s r.offset) d₂ b → Puts d at (offset_told s r) d₂ b
    unfolding offset_told codes
    offset-put s r room p₁ p₂ =
        let q₁ = spaced-placed d at (codes " offset") r.offset (omega arith) p₁ in
        let q₂ = placed d₁ a 25 (place_told s r.offset) (few-place s r.offset) (omega arith) p₂ in
        (behind q₁ q₂).put

    module _ {d₃ : List ℕ} {c : ℕ} where
      pub name-put : (t : List ℕ) → at + length t + 3 ≤ length d
          → Puts d at (codes " (") d₁ a
          → Puts d₁ a t d₂ b
          → Puts d₂ b (codes ")") d₃ c → Puts d at (name_told t) d₃ c
      unfolding name_told codes
      name-put t room p₁ p₂ p₃ =
          let q₁ = text-placed d at (codes " (") (omega arith) p₁ in
          let q₂ = text-placed d₁ a t (omega arith) p₂ in
          let q₃ = text-placed d₂ b (codes ")") (omega arith) p₃ in
          (behind q₁ (behind q₂ q₃)).put

      -- an offset that tells a place
      pub place-put : (s : List ℕ) (o : ℕ) → (o ≡ 0 → ⊥) → (q : Position) → q ≡ position s (o - 1) → at + 25 ≤ length d
          → Puts d at (spaced (codes " at") q.line) d₁ a
          → Puts d₁ a (codes ":") d₂ b
          → Puts d₂ b (decimal q.column) d₃ c → Puts d at (place_told s o) d₃ c
      unfolding place_told position_told codes
      place-put s o h q e room p₁ p₂ p₃ =
          let q₁ = spaced-placed d at (codes " at") q.line (omega arith) p₁ in
          let q₂ = text-placed d₁ a (codes ":") (omega arith) p₂ in
          let q₃ = number-placed d₂ b q.column (omega arith) p₃ in
          rw (ne_eqb o 0 h, ← e) (behind q₁ (behind q₂ q₃)).put

      module _ {d₄ : List ℕ} {n : ℕ} where
        pub head_put : (r : Reason) → at + 45 ≤ length d
            → Puts d at (spaced (codes "line") r.line) d₁ a
            → Puts d₁ a (codes " class ") d₂ b
            → Puts d₂ b (class_word r.class) d₃ c
            → Puts d₃ c (spaced (codes " node") r.node) d₄ n → Puts d at (head_told r) d₄ n
        unfolding head_told codes
        head_put r room p₁ p₂ p₃ p₄ =
            let q₁ = spaced-placed d at (codes "line") r.line (omega arith) p₁ in
            let q₂ = text-placed d₁ a (codes " class ") (omega arith) p₂ in
            let q₃ = placed d₂ b 7 (class_word r.class) (few-class r.class) (omega arith) p₃ in
            let q₄ = spaced-placed d₃ c (codes " node") r.node (omega arith) p₄ in
            (behind q₁ (behind q₂ (behind q₃ q₄))).put

        pub marks-put : (r : Reason) → at + 32 ≤ length d
            → Puts d at (codes " section ") d₁ a
            → Puts d₁ a (section_word r.section) d₂ b
            → Puts d₂ b (codes " language ") d₃ c
            → Puts d₃ c (language_word r.language) d₄ n → Puts d at (marks_told r) d₄ n
        unfolding marks_told codes
        marks-put r room p₁ p₂ p₃ p₄ =
            let q₁ = text-placed d at (codes " section ") (omega arith) p₁ in
            let q₂ = placed d₁ a 6 (section_word r.section) (few-section r.section) (omega arith) p₂ in
            let q₃ = text-placed d₂ b (codes " language ") (omega arith) p₃ in
            let q₄ = placed d₃ c 7 (language_word r.language) (few-language r.language) (omega arith) p₄ in
            (behind q₁ (behind q₂ (behind q₃ q₄))).put

        pub reason-put : (s t : List ℕ) (r : Reason) → at + length t + 123 ≤ length d
            → Puts d at (head_told r) d₁ a
            → Puts d₁ a (name_told t) d₂ b
            → Puts d₂ b (marks_told r) d₃ c
            → Puts d₃ c (offset_told s r) d₄ n → Puts d at (reason_told s t r) d₄ n
        unfolding reason_told
        reason-put s t r room p₁ p₂ p₃ p₄ =
            let q₁ = placed d at 45 (head_told r) (few_head r) (omega arith) p₁ in
            let q₂ = placed d₁ a (length t + 3) (name_told t) (few-name t) (omega arith) p₂ in
            let q₃ = placed d₂ b 32 (marks_told r) (few-marks r) (omega arith) p₃ in
            let q₄ = placed d₃ c 43 (offset_told s r) (few-offset s r) (omega arith) p₄ in
            (behind q₁ (behind q₂ (behind q₃ q₄))).put

-- ---- a name and what stands behind it, as a line
module _ (d name fields : List ℕ) {d₁ d₂ d₃ d₄ : List ℕ} {a b c n : ℕ} where
  pub answer-put : (m : ℕ) → length fields ≤ m → length name + m + 2 ≤ length d
      → Puts d 0 name d₁ a
      → Puts d₁ a (space ∷ []) d₂ b
      → Puts d₂ b fields d₃ c
      → Puts d₃ c line_end d₄ n → Begins d (answer_line name fields) d₄ n
  answer-put m few room p₁ p₂ p₃ p₄ =
      let q₁ = text-placed d 0 name (omega arith) p₁ in
      let q₂ = text-placed d₁ a (space ∷ []) (omega arith) p₂ in
      let q₃ = placed d₂ b m fields few (omega arith) p₃ in
      let q₄ = text-placed d₃ c line_end (omega arith) p₄ in
      begins d (answer_line name fields) (behind q₁ (behind q₂ (behind q₃ q₄))).put
