-- What a function answers and leaves in a lent buffer d, exit by exit. Assumes nothing.
use Prim.Native.Nat.{ℕ, ◌<◌, ◌≤◌}
use mathlib.Core.Path.{◌≡◌, refl, sym, ◌∙◌}
use mathlib.Core.List.{List, [], ◌++◌}
use mathlib.Core.Bool.{Bool, true, false}
use native.Mathlib.Omega.{arith}
use borrow.Author.Tests.{le-leb, leb-true, lt-leb}
use lib.Dec.{leb}
use lib.ListN.{length, take, drop}
use lib.Seq.{take-length}
use Rattle.lists.specs.Front.{front}
use Rattle.lists.proofs.FrontLaws.{front-nil}
use Rattle.numbers.specs.declared.Edition.{Edition}
use Rattle.pattern.specs.Patterns.{refusal}
use Rattle.pattern.specs.Storing.{stored}
use Rattle.classes.specs.declared.Class.{Class}
use Rattle.classes.specs.declared.Class.TheVariants.{All}
use Rattle.storing.specs.declared.Stored.{Stored}
use Rattle.std.specs.Prelude.{Result, Ok, Err}
use Rattle.numbers.specs.declared.Refusal.{Refusal}
use Rattle.numbers.specs.declared.Refusal.TheVariants as no
use Rattle.storing.specs.Keeping.{Keep, kept, keep_glob}
use Rattle.storing.specs.Answers.{keep_answer, keep_buffer}
use Rattle.storing.proofs.Keeping.{glob-refused, glob-kept}

module _ (d : List ℕ) where
  -- the bytes b, which are n
  module _ (k : Class) (b : List ℕ) (n : ℕ) (e : n ≡ length b) where
    pub full_answer : length d < n → Err no.NoRoom ≡ keep_answer (kept k b) (length d)
    unfolding keep_answer
    full_answer h = rw (lt-leb (length b) (length d) (omega arith))

    pub full_buffer : length d < n → d ≡ keep_buffer (kept k b) d
    unfolding keep_buffer
    full_buffer h = rw (lt-leb (length b) (length d) (omega arith))

    pub room_answer : n ≤ length d → Ok (record { class = k; size = n }) ≡ keep_answer (kept k b) (length d)
    unfolding keep_answer
    room_answer h = rw (le-leb (length b) (length d) (omega arith), e)

    pub room_buffer : n ≤ length d → (d' : List ℕ) → d' ≡ front b d → d' ≡ keep_buffer (kept k b) d
    unfolding keep_buffer
    room_buffer h d' f = rw (le-leb (length b) (length d) (omega arith)) f

  -- a glob; o is what `pattern_refusal` answers
  module _ (e : Edition) (k : Class) (t : List ℕ) (o : Result (Unit {0}) Refusal) (q : o ≡ refusal e (stored e t)) where
    module _ (n : Refusal) (z : o ≡ Err n) where
      pub glob_refused_answer : Err n ≡ keep_answer (keep_glob e k t) (length d)
      unfolding keep_answer
      glob_refused_answer = rw (glob-refused e k t o q n z)

      pub glob_refused_buffer : d ≡ keep_buffer (keep_glob e k t) d
      unfolding keep_buffer
      glob_refused_buffer = rw (glob-refused e k t o q n z)

    module _ (u : Unit {0}) (z : o ≡ Ok u) where
      taken : keep_glob e k t ≡ kept k (stored e t)
      taken = glob-kept e k t o q u z

      -- and r what `has_room` does
      module _ (r : Bool) (l : r ≡ leb (length (stored e t)) (length d)) where
        pub glob_full_answer : r ≡ false → Err no.NoRoom ≡ keep_answer (keep_glob e k t) (length d)
        unfolding keep_answer
        glob_full_answer h = rw (taken, ← l, h)

        pub glob_full_buffer : r ≡ false → d ≡ keep_buffer (keep_glob e k t) d
        unfolding keep_buffer
        glob_full_buffer h = rw (taken, ← l, h)

        module _ (h : r ≡ true) where
          pub glob_fits : length (stored e t) ≤ length d
          glob_fits = leb-true (length (stored e t)) (length d) (sym l ∙ h)

          pub glob_room_answer : (m : ℕ) → m ≡ length (stored e t) → Ok (record { class = k; size = m }) ≡ keep_answer (keep_glob e k t) (length d)
          glob_room_answer m q = rw taken (room_answer k (stored e t) m q (omega (arith, q, glob_fits)))

          pub glob_room_buffer : (d' : List ℕ) → d' ≡ front (stored e t) d → d' ≡ keep_buffer (keep_glob e k t) d
          glob_room_buffer d' f = rw taken (room_buffer k (stored e t) (length (stored e t)) refl glob_fits d' f)

  -- nothing is stored
  module _ (x : Keep) (q : x ≡ kept All []) where
    pub all_answer : Ok (record { class = All; size = 0 }) ≡ keep_answer x (length d)
    all_answer = rw q (room_answer All [] 0 refl (omega arith))

    pub all_buffer : d ≡ keep_buffer x d
    all_buffer = rw q (room_buffer All [] 0 refl (omega arith) d (front-nil d))

  -- what is kept is said in two ways, x and y
  module _ (x y : Keep) where
    pub same_answer : (r : Result Stored Refusal) → r ≡ keep_answer y (length d) → x ≡ y → r ≡ keep_answer x (length d)
    same_answer r a q = rw q a

    pub same_buffer : (d' : List ℕ) → d' ≡ keep_buffer y d → x ≡ y → d' ≡ keep_buffer x d
    same_buffer d' a q = rw q a

-- a copy of all of b
pub copied : (b d d' : List ℕ) → d' ≡ take (length b) b ++ drop (length b) d → d' ≡ front b d
unfolding front
copied b d d' q = q ∙ rw (take-length b)
