-- The exits of the checks of one line, from its numbers and its bytes. The premises are what the code has learned.
-- Assumes nothing.
use Prim.Native.Nat.{ℕ, ◌/◌, ◌≤◌, ◌<◌}
use Rattle.std.specs.Result.{is_ok}
use mathlib.Core.Path.{◌∙◌, ◌≡◌}
use mathlib.Core.List.{List, []}
use mathlib.Core.Bool.{Bool, true, false, not, and-false}
use native.Mathlib.Omega.{arith}
use borrow.Author.Tests.{eq-eqb, ne_eqb, le-leb, lt-leb, lt-ltb, le-ltb, not-true, not-false}
use lib.Dec.{eqb}
use lib.ListN.{length}
use Rattle.numbers.specs.Classes.{all_class, exact_class, nonstar_class, star_class}
use Rattle.numbers.specs.Limits.{script_limit, token_limit}
use Rattle.numbers.specs.Marks.{general, global, local}
use Rattle.lists.specs.Same.{same}
use Rattle.numbers.specs.declared.Edition.{Edition}
use Rattle.pattern.specs.Patterns.{refusal}
use Rattle.pattern.specs.Storing.{stored}
use Rattle.book.specs.declared.Frame.{Frame}
use Rattle.book.specs.Books.{edition_of, export, rust, with_offset}
use Rattle.book.specs.Layout.{class_in, language_in, line_of, section_in, struck_mark}
use Rattle.book.specs.Sanity.{bare_star, content_good, glob_stands, in_range, kind_allows, line_ok, offset_good}

-- ---- a glob that storing leaves as it is
module _ (e : Edition) (s : List ℕ) (b : Bool) (k : b ≡ is_ok (refusal e s)) where
  pub glob-refused : b ≡ false → b ≡ glob_stands e s
  unfolding glob_stands
  glob-refused f = f ∙ rw (← k, f)

  pub glob-taken : (r : Bool) → b ≡ true → r ≡ same (stored e s) s → r ≡ glob_stands e s
  unfolding glob_stands
  glob-taken r q t = rw (← k, q) t

-- ---- its numbers
module _ (nodes node code : ℕ) (bs : List ℕ) where
  pub range-node : nodes ≤ node → false ≡ in_range nodes (line_of node code bs)
  unfolding in_range
  range-node h = simp (le-ltb node nodes h)

  -- a mark over 1
  pub range-mark : 64 ≤ code → false ≡ in_range nodes (line_of node code bs)
  unfolding in_range
  range-mark h = simp (lt-leb (code / 32) 1 (omega arith), and-false)

  pub range_size : token_limit < length bs → false ≡ in_range nodes (line_of node code bs)
  unfolding in_range
  range_size h = simp (lt-leb (length bs) token_limit h, and-false)

  -- its class is that of its code
  module _ (class : ℕ) (k : class ≡ class_in code) where
    module _ (a : node < nodes) (b : code < 64) (c : length bs ≤ token_limit) where
      pub range_good : class < all_class → true ≡ in_range nodes (line_of node code bs)
      unfolding in_range
      range_good h =
          simp (
            lt-ltb node nodes a,
            ← k,
            le-leb class all_class (omega arith),
            le-leb (section_in code) 1 (omega arith),
            le-leb (language_in code) 1 (omega arith),
            le-leb (code / struck_mark) 1 (omega arith),
            le-leb (length bs) token_limit c,
            ne_eqb class all_class (λ e. omega arith),
          )

      -- All, which has length 0
      pub range_all : class ≡ all_class → eqb (length bs) 0 ≡ in_range nodes (line_of node code bs)
      unfolding in_range
      range_all h =
          simp (
            lt-ltb node nodes a,
            ← k,
            le-leb class all_class (omega arith),
            le-leb (section_in code) 1 (omega arith),
            le-leb (language_in code) 1 (omega arith),
            le-leb (code / struck_mark) 1 (omega arith),
            le-leb (length bs) token_limit c,
            eq-eqb class all_class h,
          )

    -- a class over All
    pub range-class : all_class ≤ class → (class ≡ all_class → ⊥) → false ≡ in_range nodes (line_of node code bs)
    unfolding in_range
    range-class h f = simp (← k, lt-leb class all_class (omega arith), and-false)

-- ---- its code, and the kind of its book: its class, section and language are those of its code
module _ (kind code section : ℕ) (s : section ≡ section_in code) where
  module _ (k : kind ≡ rust) where
    pub allows-local : (section ≡ global → ⊥) → true ≡ kind_allows kind (line_of 0 code [])
    unfolding kind_allows
    allows-local f = simp (eq-eqb kind rust k, ← s, ne_eqb section global f)

    module _ (g : section ≡ global) (class : ℕ) (c : class ≡ class_in code) where
      pub allows_no_glob : (class ≡ exact_class → ⊥) → false ≡ kind_allows kind (line_of 0 code [])
      unfolding kind_allows
      allows_no_glob f = simp (eq-eqb kind rust k, ← s, eq-eqb section global g, ← c, ne_eqb class exact_class f)

      pub allows-general : class ≡ exact_class → (language : ℕ) → language ≡ language_in code → eqb language general ≡ kind_allows kind (line_of 0 code [])
      unfolding kind_allows
      allows-general f language l = simp (eq-eqb kind rust k, ← s, eq-eqb section global g, ← c, eq-eqb class exact_class f, ← l)

  module _ (k : kind ≡ rust → ⊥) where
    pub allows-global : kind ≡ export → eqb section global ≡ kind_allows kind (line_of 0 code [])
    unfolding kind_allows
    allows-global m = simp (ne_eqb kind rust k, eq-eqb kind export m, ← s)

    pub allows_any : (kind ≡ export → ⊥) → true ≡ kind_allows kind (line_of 0 code [])
    unfolding kind_allows
    allows_any m = simp (ne_eqb kind rust k, ne_eqb kind export m)

-- ---- its bytes
module _ (e : Edition) (code class : ℕ) (c : class ≡ class_in code) (bs : List ℕ) where
  pub content_nonstar : (r : Bool) → class ≡ nonstar_class → r ≡ glob_stands e bs → r ≡ content_good e (line_of 0 code bs)
  unfolding content_good
  content_nonstar r h k = simp (← c, eq-eqb class nonstar_class h) k

  pub content_star : (r : Bool) → (class ≡ nonstar_class → ⊥) → class ≡ star_class → r ≡ glob_stands e bs → r ≡ content_good e (line_of 0 code bs)
  unfolding content_good
  content_star r f h k = simp (← c, ne_eqb class nonstar_class f, eq-eqb class star_class h) k

  pub content_plain : (class ≡ nonstar_class → ⊥) → (class ≡ star_class → ⊥) → true ≡ content_good e (line_of 0 code bs)
  unfolding content_good
  content_plain f g = simp (← c, ne_eqb class nonstar_class f, ne_eqb class star_class g)

-- ---- all of it
module _ (frame : Frame) (node code offset : ℕ) (bs : List ℕ) (a : Bool) (h : a ≡ in_range frame.nodes (line_of node code bs)) where
  pub line_out : not a ≡ true → false ≡ line_ok frame (with_offset offset (line_of node code bs))
  unfolding line_ok in_range
  line_out f = rw (← h, not-true a f)

  module _ (f : not a ≡ false) where
    pub line_misplaced : script_limit < offset → false ≡ line_ok frame (with_offset offset (line_of node code bs))
    unfolding line_ok in_range offset_good
    line_misplaced g = rw (← h, not-false a f, lt-leb offset script_limit g)

    module _ (p : offset ≤ script_limit) (b : Bool) (k : b ≡ kind_allows frame.kind (line_of 0 code [])) where
      pub line-barred : not b ≡ true → false ≡ line_ok frame (with_offset offset (line_of node code bs))
      unfolding line_ok in_range offset_good kind_allows
      line-barred g = rw (← h, not-false a f, le-leb offset script_limit p, ← k, not-true b g)

      pub line_rest : (e : Edition) (r : Bool) → not b ≡ false → e ≡ edition_of frame → r ≡ content_good e (line_of 0 code bs)
          → r ≡ line_ok frame (with_offset offset (line_of node code bs))
      unfolding line_ok in_range offset_good kind_allows content_good
      line_rest e r g d q = rw (← h, not-false a f, le-leb offset script_limit p, ← k, not-false b g) (rw d at q)

-- ---- the general `*` among the locals
module _ (code class : ℕ) (c : class ≡ class_in code) where
  pub star_no_all : (class ≡ all_class → ⊥) → false ≡ bare_star (line_of 0 code [])
  unfolding bare_star
  star_no_all f = simp (← c, ne_eqb class all_class f)

  module _ (h : class ≡ all_class) (section : ℕ) (s : section ≡ section_in code) where
    pub star-global : (section ≡ local → ⊥) → false ≡ bare_star (line_of 0 code [])
    unfolding bare_star
    star-global f = simp (← c, eq-eqb class all_class h, ← s, ne_eqb section local f)

    pub star-general : section ≡ local → (language : ℕ) → language ≡ language_in code → eqb language general ≡ bare_star (line_of 0 code [])
    unfolding bare_star
    star-general k language l = simp (← c, eq-eqb class all_class h, ← s, eq-eqb section local k, ← l)
