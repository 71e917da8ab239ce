-- The exits of `add` (trial/specs/Trial.antt, `add_asked`), and what `append` asks of it. The Bool that is named x is whether the buffers hold a book, and y
-- whether a line may stand there: the code asked whether they do not. Assumes nothing.
use Prim.Native.Nat.{ℕ, ◌≤◌, ◌<◌}
use mathlib.Core.Path.{◌≡◌, refl, sym, ap, ◌∙◌}
use mathlib.Core.List.{List}
use mathlib.Core.Bool.{Bool, true, false, not}
use borrow.Author.Tests.{eq-eqb, leb-true, ltb-true, ne_eqb, not-true, not-false}
use lib.Dec.{eqb, leb, ltb}
use Rattle.numbers.specs.Marks.{cxx, local}
use Rattle.numbers.specs.Refusals.{no_book, no_such, wrong_kind}
use Rattle.lists.proofs.Tests.{both}
use Rattle.linker_script.specs.Trim.{trim_end}
use Rattle.book.specs.declared.Counts.{Counts}
use Rattle.book.specs.Books.{rust}
use Rattle.book.specs.Layout.{Buffers}
use Rattle.book.specs.Sanity.{sane}
use Rattle.book.specs.View.{book_of, holds, laid}
use Rattle.book.proofs.Asking.{Held, asked_none, asked-held}
use Rattle.std.specs.Prelude.{Result, Err}
use Rattle.trial.specs.Changes.{Answers, Makes, after, edited}
use Rattle.trial.specs.Trial.{add_asked, append, may_stand, may_stand_in}

-- ---- r is answered, and b' left
abbrev pub Adds : Counts → Buffers → ℕ → ℕ → ℕ → List ℕ → Result Counts ℕ → Buffers → Type 0
Adds c b node section language t = Answers c b (λ b w. add_asked b w node section language t)

-- the buffers hold a book that takes lines
pub record Taking (c : Counts) (b : Buffers) : Type 0 where
  pub held : Held c b
  pub laid : laid c b ≡ true
  pub kind : eqb (book_of c b).kind rust ≡ false

module _ (c : Counts) (b : Buffers) (x : Bool) (e : x ≡ holds c b) where
  pub add-no_book : (node section language : ℕ) (t : List ℕ) → not x ≡ true → Adds c b node section language t (Err no_book) b
  unfolding add_asked edited after
  add-no_book node section language t h = rw (asked_none c b x e h) (refl, refl)

  module _ (h : not x ≡ false) where
    pub add-rust : (node section language : ℕ) (t : List ℕ) → c.kind ≡ rust → Adds c b node section language t (Err wrong_kind) b
    unfolding add_asked edited after book_of
    add-rust node section language t k = rw ((asked-held c b x e h).viewed, eq-eqb _ _ k) (refl, refl)

    pub add_taking : (c.kind ≡ rust → ⊥) → Taking c b
    unfolding holds book_of
    add_taking k = record {
      held = asked-held c b x e h;
      laid = (both (laid c b) (sane (book_of c b)) (sym e ∙ not-false x h)).0;
      kind = ne_eqb c.kind rust k;
    }

module _ {c : Counts} {b : Buffers} (h : Taking c b) (node section language : ℕ) (y : Bool)
    (f : y ≡ may_stand_in c.kind c.nodes node section language) where
  stands_is : may_stand (book_of c b) node section language ≡ y
  unfolding may_stand book_of
  stands_is = ap (λ (i : ℕ). may_stand_in c.kind i node section language) h.held.count ∙ sym f

  pub add-unplaced : (t : List ℕ) → not y ≡ true → Adds c b node section language t (Err no_such) b
  unfolding add_asked edited after
  add-unplaced t g = rw (h.held.viewed, h.kind, stands_is, not-true y g) (refl, refl)

  module _ (g : not y ≡ false) where
    pub asks_append : (laid c b ≡ true) × (node < c.nodes) × (section ≤ local) × (language ≤ cxx)
    asks_append =
        let a = both (ltb node c.nodes) _ (sym f ∙ not-false y g) in
        let k = both (leb section local) _ a.1 in
        let d = both (leb language cxx) _ k.1 in
        (h.laid, ltb-true _ _ a.0, leb-true _ _ k.0, leb-true _ _ d.0)

    pub add_appended : (s t : List ℕ) (r : Result Counts ℕ) (b' : Buffers) → s ≡ trim_end t → Makes c b (λ b w. append b w node section language s) r b'
        → Adds c b node section language t r b'
    unfolding add_asked
    add_appended s t r b' z w = rw (h.held.viewed, h.kind, stands_is, not-false y g, ← z) w
