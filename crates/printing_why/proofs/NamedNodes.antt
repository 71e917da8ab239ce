-- The node of the line that is named is one of the book's, and its name is one of the book's names. Assumes nothing.
use Prim.Native.Nat.{ℕ, ◌+◌, ◌≤◌, ◌<◌}
use mathlib.Core.Path.{◌≡◌, refl, sym, ap, ◌∙◌}
use mathlib.Core.List.{List}
use mathlib.Core.Bool.{Bool, true, false, cond}
use Rattle.std.specs.Prelude.{Option, Some, None, Result, Ok, Err, ⊤}
use Rattle.std.specs.Result.{result_and}
use native.Mathlib.Omega.{arith}
use lib.Dec.{eqb}
use lib.ListN.{length, get_or}
use Rattle.numbers.specs.declared.Refusal.{Refusal}
use Rattle.numbers.specs.declared.Refusal.TheVariants as no
use Rattle.lists.specs.Each.{every}
use Rattle.packing.specs.Tables.{packs, things}
use Rattle.packing.proofs.TableLaws.{every_at}
use Rattle.packing.proofs.Packings.{bytes-within}
use Rattle.book.specs.declared.Counts.{Counts}
use Rattle.book.specs.Books.{Line, Book, no_line, no_node, rust}
use Rattle.book.specs.Edits.{line_at}
use Rattle.book.specs.Layout.{Buffers, NodeLies, name_of_node, node_form}
use Rattle.book.specs.Sanity.{bare_star, in_range}
use Rattle.book.specs.View.{any_node, book_of, holds, view}
use Rattle.book.proofs.Asking.{held-book, viewed-in_range}
use Rattle.book.proofs.Forms.{ranged}
use Rattle.book.proofs.NodeRows.{node_row, nodes_packed}
use Rattle.ranking.specs.Matching.{Name}
use Rattle.ranking.specs.Names.{name_refusal}
use Rattle.ranking.specs.Walk.{deciding, first_line, or_else}
use Rattle.ranking.proofs.Deciders.{Looked, found, missing, looked, deciding_exactly}
use Rattle.lookups.specs.declared.index.VersionIndex.{VersionIndex}
use Rattle.lookups.specs.Lookups.{listed_as, long_wanted, wanted_version}
use Rattle.reasons.specs.declared.Reason.{Reason}
use Rattle.reasons.specs.declared.Why.{Why}
use Rattle.reasons.specs.declared.Why.TheVariants as why
use Rattle.reasons.specs.Why.{WhyAnswer, barred, by_wanted_told, is_wanted, line_told, reason, rust_deciding, wanted_told, why_asked, why_of}

-- ---- node i of n, whose names end at m
module _ (n m : ℕ) (l p : List ℕ) (g : packs node_form any_node n m l p ≡ true) (i : ℕ) (h : i < n) where
  pub node-lies : NodeLies l p i
  node-lies = (node_row n m l p g i h).lies

  module _ (t : List ℕ) (e : t ≡ name_of_node l p i) where
    pub node-named : t ≡ (get_or (things node_form n l p) i no_node).name
    node-named = e ∙ (node_row n m l p g i h).name

    pub name-short : length t ≤ m
    unfolding node_form
    name-short =
        let k = nodes_packed n m l p g in
        omega (arith, ap length node-named, bytes-within k i no_node (omega (arith, k.count)))

-- ---- the line that is named
-- the answers that name none
no_line-named : (y : Why) (r : Reason) → y ≡ why.NoLine → y ≡ why.Line r → ⊥
no_line-named y r e f = let z : ◌≡◌ {A = ℕ} 0 1 = cc in omega arith

refused-names : (n : Refusal) (r : Reason) → ◌≡◌ {A = WhyAnswer} (Err n) (Ok (why.Line r)) → ⊥
refused-names n r e = cc

same_told : (x y : Why) → ◌≡◌ {A = WhyAnswer} (Ok x) (Ok y) → x ≡ y
same_told x y e = cc

wanted-names : (v : Result VersionIndex Refusal) (r : Reason) → wanted_told v ≡ Ok (why.Line r) → ⊥
wanted-names (Ok i) r e = let z : why.Wanted ≡ why.Line r = same_told _ _ e in cc
wanted-names (Err n) r e = refused-names n r e

-- the first line that passes a test is there
first_there : (t : Line → Bool) (ls : List Line) (o : Option ℕ) → Looked t ls 0 o → (i : ℕ) → o ≡ Some i → i < length ls
first_there t ls o (found j f) i e = let q : 0 + j ≡ i = cc in omega (arith, f.there)
first_there t ls o (missing f) i e = let z : ◌≡◌ {A = ℕ} 0 1 = cc in absurd (omega arith)

either_there : (ls : List Line) (a b : Option ℕ) → ((i : ℕ) → a ≡ Some i → i < length ls) → ((i : ℕ) → b ≡ Some i → i < length ls)
    → (i : ℕ) → or_else a b ≡ Some i → i < length ls
either_there ls (Some j) b f g i e = f i e
either_there ls None b f g i e = g i e

rust-there : (t : List ℕ) (ls : List Line) (i : ℕ) → rust_deciding t ls ≡ Some i → i < length ls
unfolding rust_deciding
rust-there t ls =
    either_there ls (first_line (listed_as t) 0 ls) (first_line bare_star 0 ls) (first_there (listed_as t) ls _ (looked (listed_as t) 0 ls))
    (first_there bare_star ls _ (looked bare_star 0 ls))

-- of lines in range
line-node : (k : ℕ) (ls : List Line) → every (in_range k) ls ≡ true → (o : Option ℕ) → ((i : ℕ) → o ≡ Some i → i < length ls)
    → (r : Reason) → line_told ls o ≡ why.Line r → r.node < k
line-node k ls g (Some i) f r e =
    let z : reason i (line_at ls i) ≡ r = cc in
    omega (arith, (ranged k (line_at ls i) (every_at (in_range k) ls i no_line g (f i refl))).node, ap (λ (r : Reason). r.node) z)
line-node k ls g None f r e = absurd (no_line-named why.NoLine r refl e)

module _ (w : Book) (g : every (in_range (length w.nodes)) w.lines ≡ true) (n : Name) (r : Reason) where
  by_wanted-node : (v : Option (List ℕ)) → by_wanted_told w n v ≡ Ok (why.Line r) → r.node < length w.nodes
  by_wanted-node (Some v) e = absurd (wanted-names (wanted_version w.nodes v) r e)
  by_wanted-node None e = line-node (length w.nodes) w.lines g (deciding n w) (λ i f. ((deciding_exactly n w g i).0 f).there) r (same_told _ _ e)

  of_node : (v : Option (List ℕ)) → why_of w n v ≡ Ok (why.Line r) → r.node < length w.nodes
  unfolding why_of
  of_node v = go (eqb w.kind rust)
    where
      go : (b : Bool) → cond b (Ok (line_told w.lines (rust_deciding n.raw w.lines))) (by_wanted_told w n v) ≡ Ok (why.Line r) → r.node < length w.nodes
      go true e = line-node (length w.nodes) w.lines g (rust_deciding n.raw w.lines) (rust-there n.raw w.lines) r (same_told _ _ e)
      go false e = by_wanted-node v e

  asked-node : (v : Option (List ℕ)) → why_asked (Some w) n v ≡ Ok (why.Line r) → r.node < length w.nodes
  unfolding why_asked
  asked-node v = go (barred w.kind (is_wanted v)) (name_refusal n (long_wanted v))
    where
      go : (a : Bool) (x : Result ⊤ Refusal) → cond a (Err no.WrongKind) (result_and x (why_of w n v)) ≡ Ok (why.Line r) → r.node < length w.nodes
      go true x e = absurd (refused-names no.WrongKind r e)
      go false (Ok u) e = of_node v e
      go false (Err z) e = absurd (refused-names z r e)

-- of a book that is held
pub held-node : (c : Counts) (b : Buffers) → holds c b ≡ true → (n : Name) (v : Option (List ℕ)) (y : WhyAnswer) → y ≡ why_asked (view c b) n v
    → (r : Reason) → y ≡ Ok (why.Line r) → r.node < c.nodes
held-node c b h n v y e r f =
    let k = held-book c b h in
    let g : why_asked (Some (book_of c b)) n v ≡ Ok (why.Line r) = ap (λ (w : Option Book). why_asked w n v) (sym k.viewed) ∙ (sym e ∙ f) in
    omega (arith, asked-node (book_of c b) (viewed-in_range c b (book_of c b) k.viewed) n r v g, k.count)
