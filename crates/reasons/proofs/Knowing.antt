-- A wanted version is known where it is empty, or some node has that name (specs/Named.antt): what the lookup's search says of it. Assumes nothing.
use Prim.Native.Nat.{ℕ, zero, suc, ◌+◌, ◌<◌}
use mathlib.Core.Path.{◌≡◌, refl, sym, ap, ◌∙◌}
use mathlib.Core.List.{List, [], ◌∷◌}
use mathlib.Core.Bool.{Bool, true, false, cond, true≢false}
use mathlib.Core.Logic.{◌↔◌, inl, inr}
use Rattle.std.specs.Prelude.{Option, Some, None, Ok, Err}
use native.Mathlib.Omega.{arith}
use borrow.Author.Tests.{eqb-true}
use lib.ListN.{length}
use Rattle.numbers.specs.declared.Refusal.TheVariants as no
use Rattle.lists.specs.Same.{same}
use Rattle.lists.proofs.SameLaws.{same_equal, same_refl}
use Rattle.lists.proofs.Tests.{both}
use Rattle.book.specs.Books.{Node, Book}
use Rattle.book.specs.Sanity.{name_at, nodes_good}
use Rattle.ranking.specs.Walk.{or_else}
use Rattle.lookups.specs.Lookups.{known, last_named, wanted_version}
use Rattle.reasons.specs.declared.Why.TheVariants as why
use Rattle.reasons.specs.Named.{Known}
use Rattle.reasons.specs.Why.{WhyAnswer, wanted_told}

-- ---- some node has the name
module _ (t : List ℕ) where
  abbrev NamedSo : List Node → Type 0
  NamedSo xs = (i : ℕ) × ((i < length xs) × (name_at xs i ≡ t))

  behind : (x : Node) (xs : List Node) → NamedSo xs → NamedSo (x ∷ xs)
  behind x xs (i, (h, e)) = (suc i, (omega arith, e))

  found_so : (xs : List Node) (i k : ℕ) → last_named xs i t ≡ Some k → NamedSo xs
  unfolding last_named
  found_so [] i k e = let z : ◌≡◌ {A = ℕ} 0 1 = cc in absurd (omega arith)
  found_so (x ∷ xs) i k e = go (last_named xs (i + 1) t) refl (same x.name t) refl (λ j f. found_so xs (i + 1) j f) e
    where
      go : (o : Option ℕ) → last_named xs (i + 1) t ≡ o → (b : Bool) → same x.name t ≡ b → ((j : ℕ) → last_named xs (i + 1) t ≡ Some j → NamedSo xs)
          → or_else o (cond b (Some i) None) ≡ Some k → NamedSo (x ∷ xs)
      go (Some j) f b g rest e = behind x xs (rest j f)
      go None f true g rest e = (0, (omega arith, same_equal x.name t g))
      go None f false g rest e = let z : ◌≡◌ {A = ℕ} 0 1 = cc in absurd (omega arith)

  none_so : (xs : List Node) (i : ℕ) → last_named xs i t ≡ None → (j : ℕ) → j < length xs → name_at xs j ≡ t → ⊥
  unfolding last_named
  none_so [] i e j h f = absurd (omega arith)
  none_so (x ∷ xs) i e j h f = go (last_named xs (i + 1) t) refl (same x.name t) refl (λ g k l m. none_so xs (i + 1) g k l m) e j h f
    where
      go : (o : Option ℕ) → last_named xs (i + 1) t ≡ o → (b : Bool) → same x.name t ≡ b
          → (last_named xs (i + 1) t ≡ None → (k : ℕ) → k < length xs → name_at xs k ≡ t → ⊥)
          → or_else o (cond b (Some i) None) ≡ None → (j : ℕ) → j < length (x ∷ xs) → name_at (x ∷ xs) j ≡ t → ⊥
      go (Some m) g b k rest e j h f = let z : ◌≡◌ {A = ℕ} 0 1 = cc in absurd (omega arith)
      go None g true k rest e j h f = let z : ◌≡◌ {A = ℕ} 0 1 = cc in absurd (omega arith)
      go None g false k rest e zero h f = true≢false (sym (same_refl t) ∙ ap (λ (u : List ℕ). same u t) (sym f) ∙ k)
      go None g false k rest e (suc j) h f = rest g j (omega arith) f

-- ---- what is told of a wanted version
abbrev TellsKnown : Book → List ℕ → WhyAnswer → Type 0
TellsKnown w v y = ((y ≡ Ok why.Wanted) ↔ Known w v) × ((Known w v → ⊥) → y ≡ Err no.UnknownVersion)

-- node 0 has no name
unnamed_first : (w : Book) → nodes_good w.nodes ≡ true → (c : ℕ) (v : List ℕ) → name_at w.nodes 0 ≡ c ∷ v → ⊥
unfolding nodes_good
unnamed_first w g c v e = go w.nodes g e
  where
    go : (xs : List Node) → nodes_good xs ≡ true → name_at xs 0 ≡ c ∷ v → ⊥
    go [] g e = true≢false (sym g)
    go (x ∷ xs) g e = let z = eqb-true (length x.name) 0 (both _ _ g).0 in omega (arith, z, ap length e)

-- so the name is that of another
of_another : (w : Book) → nodes_good w.nodes ≡ true → (c : ℕ) (v : List ℕ) → NamedSo (c ∷ v) w.nodes → Known w (c ∷ v)
of_another w g c v (zero, (h, e)) = absurd (unnamed_first w g c v e)
of_another w g c v (suc i, (h, e)) = inr (suc i, (omega arith, h, e))

pub tells_known : (w : Book) → nodes_good w.nodes ≡ true → (v : List ℕ) → TellsKnown w v (wanted_told (wanted_version w.nodes v))
unfolding wanted_version
tells_known w g [] = ((λ e. inl refl, λ k. refl), λ k. absurd (k (inl refl)))
tells_known w g (c ∷ v) = go (last_named w.nodes 0 (c ∷ v)) refl
  where
    go : (o : Option ℕ) → last_named w.nodes 0 (c ∷ v) ≡ o → TellsKnown w (c ∷ v) (wanted_told (known o))
    go (Some k) e = let z = of_another w g c v (found_so (c ∷ v) w.nodes 0 k e) in ((λ f. z, λ f. refl), λ f. absurd (f z))
    go None e = (
      (λ f. cc, λ f. absurd (unnamed f)),
      λ f. refl,
    )
      where
        unnamed : Known w (c ∷ v) → ⊥
        unnamed (inl f) = let z : ◌≡◌ {A = ℕ} 0 1 = cc in absurd (omega arith)
        unnamed (inr (i, (k, h, f))) = none_so (c ∷ v) w.nodes 0 e i h f
