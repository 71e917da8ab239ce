-- What stands in a buffer behind the calls of `put_fields` and `put_symbol_line`. Assumes nothing.
use Prim.Native.Nat.{ℕ, ◌+◌, ◌≤◌}
use mathlib.Core.Path.{◌≡◌}
use mathlib.Core.List.{List, [], ◌∷◌, ◌++◌}
use native.Mathlib.Omega.{arith}
use lib.ListN.{length, length-append}
use Rattle.numbers.specs.Signs.{space}
use Rattle.lists.specs.Texts.{codes}
use Rattle.std.specs.Prelude.{Option, Some, None, Ok, Err}
use Rattle.numbers.specs.declared.Refusal.{Refusal}
use Rattle.numbers.specs.Saying.{number}
use Rattle.lookups.specs.Lookups.{LocalityAnswer, VersionAnswer}
use Rattle.lookups.specs.declared.index.VersionIndex.{VersionIndex}
use Rattle.lookups.specs.declared.answers.Locality.{Locality}
use Rattle.lookups.specs.declared.answers.Locality.TheVariants as locality
use Rattle.printing.specs.Printing.{Begins, Puts, refused_fields}
use Rattle.printing_symbols.specs.Lines.{fields, index_field, locality_field, symbol_line}
use Rattle.printing.proofs.Digits.{few-digits}
use Rattle.printing.proofs.Pieces.{begins, few-refused, line_end, puts-both, puts-long}

-- ---- the fields behind a name
pub few-index : (v : Option VersionIndex) → length (index_field v) ≤ 10
unfolding index_field
few-index (Some i) = few-digits i.0
few-index None = omega arith

few-locality : (l : Option Locality) → length (locality_field l) ≤ 2
unfolding locality_field codes
few-locality (Some locality.Global) = omega arith
few-locality (Some locality.Local) = omega arith
few-locality None = omega arith

pub few-fields : (v : VersionAnswer) (l : LocalityAnswer) → length (fields v l) ≤ 12
unfolding fields
few-fields (Ok v) (Ok l) = omega (arith, length-append (index_field v) (locality_field l), few-index v, few-locality l)
few-fields (Ok v) (Err e) = few-refused (number e)
few-fields (Err e) l = few-refused (number e)

module _ (d : List ℕ) (at : ℕ) {v : VersionAnswer} (l : LocalityAnswer) {d₁ : List ℕ} {r : ℕ} where
  pub version-refused : {e : Refusal} → v ≡ Err e → Puts d at (refused_fields (number e)) d₁ r → Puts d at (fields v l) d₁ r
  unfolding fields
  version-refused f p = rw f p

  module _ {i : Option VersionIndex} (f : v ≡ Ok i) where
    pub locality-refused : {e : Refusal} → l ≡ Err e → Puts d at (refused_fields (number e)) d₁ r → Puts d at (fields v l) d₁ r
    unfolding fields
    locality-refused g p = rw (f, g) p

    pub fields-told : {o : Option Locality} {d₀ : List ℕ} {a : ℕ} → at + 14 ≤ length d → l ≡ Ok o → Puts d at (index_field i) d₀ a
        → Puts d₀ a (locality_field o) d₁ r → Puts d at (fields v l) d₁ r
    unfolding fields
    fields-told {o} room g p q = rw (f, g) (puts-both d at (index_field i) (locality_field o) (omega (arith, few-index i, few-locality o)) p q)

-- ---- a symbol's line
pub symbol_line-put : (d name : List ℕ) (v : VersionAnswer) (l : LocalityAnswer) {d₁ d₂ d₃ d₄ : List ℕ} {a b c r : ℕ} → length name + 48 ≤ length d
    → Puts d 0 name d₁ a → Puts d₁ a (space ∷ []) d₂ b → Puts d₂ b (fields v l) d₃ c → Puts d₃ c line_end d₄ r → Begins d (symbol_line name v l) d₄ r
unfolding symbol_line
symbol_line-put d name v l {d₁} {d₂} {d₄ = d₄} {a} {b} {r = r} room p q s t =
    let w : a ≡ 0 + length name = p.0 in
    let w₂ : b ≡ a + 1 = q.0 in
    let f = few-fields v l in
    let x₁ = puts-long d 0 name (omega arith) p in
    let x₂ = puts-long d₁ a (space ∷ []) (omega arith) q in
    let l₃ = length-append (fields v l) line_end in
    let y₃ : Puts d₂ b (fields v l ++ line_end) d₄ r = puts-both d₂ b (fields v l) line_end (omega arith) s t in
    let y₂ : Puts d₁ a (space ∷ (fields v l ++ line_end)) d₄ r = puts-both d₁ a (space ∷ []) (fields v l ++ line_end) (omega arith) q y₃ in
    begins d (symbol_line name v l) (puts-both d 0 name (space ∷ (fields v l ++ line_end)) (omega arith) p y₂)
