-- The version that is wanted by name (specs/Lookups.antt): the search for the last node of a name, from the last row backward. Assumes nothing.
use Prim.Native.Nat.{ℕ, suc, ◌+◌, ◌-◌, ◌≤◌, ◌<◌}
use mathlib.Core.Path.{◌≡◌, refl, sym, ap, ◌∙◌}
use mathlib.Core.List.{List, [], ◌∷◌, ◌++◌}
use mathlib.Core.Bool.{Bool, true, false}
use Rattle.std.specs.Prelude.{Some, None, Result, Ok, Err}
use native.Mathlib.Omega.{arith}
use lib.ListN.{length, get_or, take}
use lib.Seq.{length-take-le, take_all, take-suc}
use Rattle.numbers.specs.declared.Refusal.{Refusal}
use Rattle.numbers.specs.declared.Refusal.TheVariants as no
use Rattle.lists.specs.Same.{same}
use Rattle.packing.specs.Tables.{packs, things}
use Rattle.book.specs.Books.{Node, no_node}
use Rattle.book.specs.Layout.{NodeLies, name_of_node, node_form}
use Rattle.book.specs.View.{any_node}
use Rattle.book.proofs.NodeRows.{Row, Walk, nodes-count, walk-count, walk-row, walk-stands}
use Rattle.lookups.specs.declared.index.NodeNumber.{NodeNumber}
use Rattle.lookups.specs.declared.index.VersionIndex.{VersionIndex}
use Rattle.lookups.specs.Lookups.{global_index, index_of, known, last_named, node_number, wanted_version}

-- ---- the last node has the name, or those before it decide
last_here : (ys : List Node) (x : Node) (k : ℕ) (t : List ℕ) → same x.name t ≡ true → last_named (ys ++ x ∷ []) k t ≡ Some (k + length ys)
unfolding last_named
last_here [] x k t e = rw e (ap Some (omega arith))
last_here (y ∷ ys) x k t e = rw (last_here ys x (k + 1) t e) (ap Some (omega arith))

last_before : (ys : List Node) (x : Node) (k : ℕ) (t : List ℕ) → same x.name t ≡ false → last_named (ys ++ x ∷ []) k t ≡ last_named ys k t
unfolding last_named
last_before [] x k t e = rw e
last_before (y ∷ ys) x k t e = rw (last_before ys x (k + 1) t e)

-- ---- row by row
-- those from node i on have other names
pub record Backward (n : ℕ) (l m t : List ℕ) (i : ℕ) : Type 0 where
  pub end : ℕ
  pub walk : Walk n end l m i
  pub goes : last_named (things node_form n l m) 0 t ≡ last_named (take i (things node_form n l m)) 0 t

module _ {n : ℕ} {l m t : List ℕ} where
  pub back_starts : (p : ℕ) → packs node_form any_node n p l m ≡ true → Backward n l m t n
  back_starts p g = record {
    end = p;
    walk = walk-stands g (omega arith);
    goes = ap (λ (u : List Node). last_named u 0 t) (sym (take_all n (things node_form n l m) (omega (arith, nodes-count n p l m g))));
  }

  module _ {i : ℕ} (z : Backward n l m t i) where
    module _ (h : 0 < i) where
      before : Walk n z.end l m (i - 1)
      before = record { packing = z.walk.packing; whole = z.walk.whole; within = omega (arith, z.walk.within) }

      back_row : Row n l m (i - 1)
      back_row = walk-row before (omega (arith, z.walk.within))

      pub back_lies : NodeLies l m (i - 1)
      back_lies = back_row.lies

      counted : i - 1 < length (things node_form n l m)
      counted = omega (arith, z.walk.within, walk-count before)

      cut : take i (things node_form n l m) ≡ take (i - 1) (things node_form n l m) ++ get_or (things node_form n l m) (i - 1) no_node ∷ []
      cut =
          let e : i ≡ suc (i - 1) = omega arith in
          ap (λ (k : ℕ). take k (things node_form n l m)) e ∙ take-suc (things node_form n l m) (i - 1) no_node counted

      module _ {s : List ℕ} (b : s ≡ name_of_node l m (i - 1)) {r : Bool} (e : r ≡ same s t) where
        asked : r ≡ same (get_or (things node_form n l m) (i - 1) no_node).name t
        asked = e ∙ ap (λ (u : List ℕ). same u t) (b ∙ back_row.name)

        -- the node has the name
        pub back_found : r ≡ true → {k : NodeNumber} → k ≡ node_number (i - 1) → {v : VersionIndex} → v ≡ index_of k
            → Ok v ≡ known (last_named (things node_form n l m) 0 t)
        back_found y w q =
            let xs : List Node = things node_form n l m in
            let k : 0 + length (take (i - 1) xs) ≡ i - 1 = omega (arith, length-take-le (i - 1) xs (omega (arith, counted))) in
            let f : last_named xs 0 t ≡ Some (i - 1)
            = z.goes ∙ ap (λ (u : List Node). last_named u 0 t) cut ∙ last_here (take (i - 1) xs) (get_or xs (i - 1) no_node) 0 t (sym asked ∙ y) ∙ ap Some k in
            rw (f, q, w)

        -- it has another, and the search goes on
        pub back_more : r ≡ false → Backward n l m t (i - 1)
        back_more y = record {
          end = z.end;
          walk = before;
          goes = z.goes ∙ ap (λ (u : List Node). last_named u 0 t) cut ∙ last_before _ _ 0 t (sym asked ∙ y);
        }

    -- none has it
    pub back_ends : i ≤ 0 → Err no.UnknownVersion ≡ known (last_named (things node_form n l m) 0 t)
    unfolding last_named
    back_ends h =
        let e : i ≡ 0 = omega arith in
        let f : last_named (things node_form n l m) 0 t ≡ None = z.goes ∙ ap (λ (k : ℕ). last_named (take k (things node_form n l m)) 0 t) e in
        rw f

-- ---- an empty version, or one to be known
pub wanted-empty : (xs : List Node) (t : List ℕ) → length t ≡ 0 → Ok global_index ≡ wanted_version xs t
unfolding wanted_version
wanted-empty xs [] h = refl
wanted-empty xs (c ∷ t) h = absurd (omega arith)

pub wanted-known : (xs : List Node) (t : List ℕ) → (length t ≡ 0 → ⊥) → (v : Result VersionIndex Refusal) → v ≡ known (last_named xs 0 t) → v ≡ wanted_version xs t
unfolding wanted_version
wanted-known xs [] h v e = absurd (h refl)
wanted-known xs (c ∷ t) h v e = e
