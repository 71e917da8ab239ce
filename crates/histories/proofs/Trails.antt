-- Edits one behind the other: the latest taken back gives the lines before it, and a journal that is longer by one edit fits the lines behind it. A trail is
-- what lies between the lines at some moment and those now. Assumes nothing.
use Prim.Native.Nat.{ℕ, ◌+◌, ◌-◌, ◌<◌}
use mathlib.Core.Path.{◌≡◌, refl, sym, ap, ◌∙◌}
use mathlib.Core.List.{List, [], ◌∷◌, ◌++◌}
use mathlib.Core.Bool.{true, true≢false}
use Rattle.std.specs.Prelude.{Option, Some, None}
use native.Mathlib.Omega.{arith}
use borrow.Author.Tests.{eq-eqb, eqb-true, lt-ltb}
use lib.ListN.{length, set, take, length-append, length-set}
use lib.Seq.{get_or-append_seam, get_or-set_same, set-get_or, set-set, take-append_seam}
use Rattle.book.specs.Books.{Book, Edit, Line, add, strike, no_line}
use Rattle.book.specs.Edits.{add_back, all_back, all_stand, journal_fits, line_at, marked, stands, strike_back, take_back, then_back}
use Rattle.book.specs.Layout.{Buffers}
use Rattle.book_opened.proofs.Opened.{Viewable}
use Rattle.trial.specs.Trial.{latest}
use Rattle.histories.specs.Histories.{desk_of_book, earlier_lines, led_back}
use Rattle.histories.proofs.Asked.{book_with}

-- ---- an edit taken back gives the lines before it
module _ (ls : List Line) where
  pub added_back : (x : Line) → x.struck ≡ 0 → take_back (record { what = add; line = length ls }) (ls ++ x ∷ []) ≡ Some ls
  unfolding take_back add_back
  added_back x z =
      let n : length (ls ++ x ∷ []) ≡ length ls + 1 = length-append ls (x ∷ []) in
      rw (eq-eqb _ _ n, get_or-append_seam, z, take-append_seam)

  unmarked : (x : Line) → x.struck ≡ 0 → marked 0 x ≡ x
  unmarked x z = λ i. record {
    node = x.node;
    class = x.class;
    section = x.section;
    language = x.language;
    struck = sym z i;
    bytes = x.bytes;
    offset = x.offset;
  }

  pub struck_back : (i : ℕ) → i < length ls → stands (line_at ls i) ≡ true
      → take_back (record { what = strike; line = i }) (set ls i (marked 1 (line_at ls i))) ≡ Some ls
  unfolding take_back strike_back
  struck_back i h s =
      let x : Line = line_at ls i in
      let e : line_at (set ls i (marked 1 x)) i ≡ marked 1 x = get_or-set_same ls i (marked 1 x) no_line h in
      let n : length (set ls i (marked 1 x)) ≡ length ls = length-set ls i (marked 1 x) in
      rw (e, n, lt-ltb i (length ls) h, set-set, unmarked x (eqb-true _ _ s), set-get_or)

-- ---- a journal with one edit more
pub back_last : (es : List Edit) (e : Edit) (ls before : List Line) → take_back e ls ≡ Some before → all_back (es ++ e ∷ []) ls ≡ all_back es before
unfolding all_back
back_last [] e ls before h = h
back_last (f ∷ es) e ls before h = ap (then_back f) (back_last es e ls before h)

pub journal_last : (es : List Edit) (e : Edit) (ls before : List Line) → take_back e ls ≡ Some before → journal_fits es before ≡ true
    → journal_fits (es ++ e ∷ []) ls ≡ true
unfolding journal_fits
journal_last es e ls before h k = rw (back_last es e ls before h) k

pub back_none : (es : List Edit) (e : Edit) (ls : List Line) → take_back e ls ≡ None → all_back (es ++ e ∷ []) ls ≡ None
unfolding all_back
back_none [] e ls h = h
back_none (f ∷ es) e ls h = ap (then_back f) (back_none es e ls h)

-- and the other way: where it fits, its latest edit can be taken back, and the rest fits the lines before it
pub last_back : (es : List Edit) (e : Edit) (ls : List Line) → journal_fits (es ++ e ∷ []) ls ≡ true
    → (before : List Line) × (take_back e ls ≡ Some before) × (journal_fits es before ≡ true)
unfolding journal_fits
last_back es e ls k = go (take_back e ls) refl
  where
    go : (o : Option (List Line)) → take_back e ls ≡ o → (before : List Line) × (take_back e ls ≡ Some before) × (all_stand (all_back es before) ≡ true)
    go (Some before) h = (before, h, ap all_stand (sym (back_last es e ls before h)) ∙ k)
    go None h = absurd (true≢false (sym k ∙ ap all_stand (back_none es e ls h)))

pub earlier_last : (es : List Edit) (e : Edit) (ls before : List Line) → take_back e ls ≡ Some before
    → earlier_lines (es ++ e ∷ []) ls ≡ before ∷ earlier_lines es before
unfolding earlier_lines all_back
earlier_last [] e ls before h = rw h
earlier_last (f ∷ es) e ls before h = rw (earlier_last es e ls before h, back_last es e ls before h)

-- its latest edit, and those before it
module _ (es : List Edit) (e : Edit) where
  pub length_last : length (es ++ e ∷ []) ≡ length es + 1
  length_last = length-append es (e ∷ [])

  one_less : length (es ++ e ∷ []) - 1 ≡ length es
  one_less = omega (arith, length_last)

  pub latest_last : latest (es ++ e ∷ []) ≡ e
  latest_last = rw (one_less, get_or-append_seam)

  pub before_last : take (length (es ++ e ∷ []) - 1) (es ++ e ∷ []) ≡ es
  before_last = rw (one_less, take-append_seam)

-- ---- a trail of the book w in buffers with the rooms of b: from the lines of a moment to lines ls with a journal es, with the lines before each edit, the
-- latest first
pub data Trail (b : Buffers) (w : Book) (moment : List Line) : List (List Line) → List Edit → List Line → Type 0 where
  begins : {es : List Edit} {ls : List Line} → es ≡ [] → ls ≡ moment → Trail b w moment [] es ls
  goes : {earlier : List (List Line)} {es : List Edit} {ls : List Line} (fs : List Edit) (e : Edit) (before : List Line) → es ≡ fs ++ e ∷ []
      → take_back e ls ≡ Some before → Viewable b (book_with w before fs) → Trail b w moment earlier fs before → Trail b w moment (before ∷ earlier) es ls

pub trail-length : {b : Buffers} {w : Book} {moment : List Line} {earlier : List (List Line)} {es : List Edit} {ls : List Line}
    → Trail b w moment earlier es ls → length es ≡ length earlier
trail-length (begins e f) = ap length e
trail-length (goes fs e before z h v t) = rw z (omega (arith, length_last fs e, trail-length t))

-- a trail is what its book's own journal tells
module _ {b : Buffers} {w : Book} {moment : List Line} where
  trail-moment : {earlier : List (List Line)} {es : List Edit} {ls : List Line} → Trail b w moment earlier es ls → led_back (all_back es ls) ≡ moment
  unfolding all_back
  trail-moment (begins z e) = rw (z, e)
  trail-moment {ls = ls} (goes fs e before z h v t) = rw (z, back_last fs e ls before h) (trail-moment t)

  trail-earlier : {earlier : List (List Line)} {es : List Edit} {ls : List Line} → Trail b w moment earlier es ls → earlier_lines es ls ≡ earlier
  unfolding earlier_lines
  trail-earlier (begins z e) = rw z
  trail-earlier {ls = ls} (goes fs e before z h v t) = rw (z, earlier_last fs e ls before h, trail-earlier t)

  pub trail-desk : {earlier : List (List Line)} {es : List Edit} {ls : List Line} → Trail b w moment earlier es ls
      → desk_of_book (book_with w ls es) ≡ record { moment = moment; earlier = earlier; lines = ls }
  unfolding desk_of_book
  trail-desk {ls = ls} t = λ i. record { moment = trail-moment t i; earlier = trail-earlier t i; lines = ls }
