-- What stands in a buffer behind the calls of `put_counts_line`. Assumes nothing.
use Prim.Native.Nat.{ℕ, ◌+◌, ◌≤◌}
use mathlib.Core.Path.{◌≡◌}
use mathlib.Core.List.{List, [], ◌∷◌, ◌++◌}
use native.Mathlib.Omega.{arith}
use lib.ListN.{length, length-append}
use Rattle.lists.specs.Texts.{codes}
use Rattle.std.specs.Prelude.{Ok}
use Rattle.printing.specs.Printing.{Begins, Puts, decimal}
use Rattle.printing_symbols.specs.Lines.{counts_line}
use Rattle.printing.proofs.Digits.{few-digits}
use Rattle.printing.proofs.Pieces.{begins, line_end, puts-both, puts-long}

-- ---- `nodes N parents P`
abbrev nodes_word : List ℕ
nodes_word = 110 ∷ 111 ∷ 100 ∷ 101 ∷ 115 ∷ 32 ∷ []

abbrev parents_word : List ℕ
parents_word = 32 ∷ 112 ∷ 97 ∷ 114 ∷ 101 ∷ 110 ∷ 116 ∷ 115 ∷ 32 ∷ []

module _ (d : List ℕ) where
  pub counts_line-put : (n m : ℕ) {d₁ d₂ d₃ d₄ d₅ : List ℕ} {a b c e r : ℕ} → 36 ≤ length d
      → Puts d 0 nodes_word d₁ a → Puts d₁ a (decimal n) d₂ b → Puts d₂ b parents_word d₃ c → Puts d₃ c (decimal m) d₄ e → Puts d₄ e line_end d₅ r
      → Begins d (counts_line (Ok n) (Ok m)) d₅ r
  unfolding counts_line codes
  counts_line-put n m {d₁} {d₂} {d₃} {d₅ = d₅} {a} {b} {c} {r = r} room p q s t u =
      let w : a ≡ 6 = p.0 in
      let w₂ : b ≡ a + length (decimal n) = q.0 in
      let w₃ : c ≡ b + 9 = s.0 in
      let f = few-digits n in
      let g = few-digits m in
      let x₁ = puts-long d 0 nodes_word (omega arith) p in
      let x₂ = puts-long d₁ a (decimal n) (omega arith) q in
      let x₃ = puts-long d₂ b parents_word (omega arith) s in
      let l₄ = length-append (decimal m) line_end in
      let y₄ : Puts d₃ c (decimal m ++ line_end) d₅ r = puts-both d₃ c (decimal m) line_end (omega arith) t u in
      let l₃ = length-append parents_word (decimal m ++ line_end) in
      let y₃ : Puts d₂ b (parents_word ++ (decimal m ++ line_end)) d₅ r = puts-both d₂ b parents_word (decimal m ++ line_end) (omega arith) s y₄ in
      let l₂ = length-append (decimal n) (parents_word ++ (decimal m ++ line_end)) in
      let y₂ : Puts d₁ a (decimal n ++ (parents_word ++ (decimal m ++ line_end))) d₅ r =
      puts-both d₁ a (decimal n) (parents_word ++ (decimal m ++ line_end)) (omega arith) q y₃ in
      begins d (counts_line (Ok n) (Ok m))
      (puts-both d 0 nodes_word (decimal n ++ (parents_word ++ (decimal m ++ line_end))) (omega arith) p y₂)
