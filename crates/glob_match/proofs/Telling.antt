-- What a host is told, exit by exit, and how large a class and a length can be. Assumes nothing.
use Prim.Native.Nat.{ℕ, ◌+◌, ◌*◌, ◌<◌, ◌≤◌}
use mathlib.Core.Path.{◌≡◌, sym, ap, ◌∙◌}
use mathlib.Core.List.{List}
use mathlib.Core.Bool.{Bool, true, false, cond, ◌||◌}
use native.Mathlib.Omega.{arith}
use borrow.Author.Tests.{lt-ltb, le-ltb}
use lib.Dec.{leb}
use lib.ListN.{length}
use Rattle.numbers.specs.Classes.{all_class}
use Rattle.numbers.specs.Limits.{name_limit, over, token_limit}
use Rattle.utf8.specs.Utf8.{utf8}
use Rattle.numbers.specs.declared.Edition.{Edition}
use Rattle.matching.specs.declared.Tried.{Tried}
use Rattle.pattern.specs.Patterns.{refusal}
use Rattle.matching.specs.Tests.{match_of}
use Rattle.classes.specs.declared.Class.{Class}
use Rattle.classes.specs.declared.Class.TheVariants.{Escaped}
use Rattle.storing.specs.declared.Stored.{Stored}
use Rattle.std.specs.Prelude.{Result, Ok, Err}
use Rattle.numbers.specs.declared.Refusal.{Refusal}
use Rattle.numbers.specs.declared.Refusal.TheVariants as no
use Rattle.numbers.specs.Saying.{number}
use Rattle.classes.specs.Classes.{class_number, class_of}
use Rattle.classes.proofs.ClassNumbers.{class-few}
use Rattle.storing.specs.Keeping.{unescape, Keep, kept, refused, keep}
use Rattle.storing.specs.Answers.{Stores, keep_answer}
use Rattle.glob_match.specs.Answers.{answer_told, class_told, length_told, match_told, match_when, store_told, unasked_told}
use Rattle.glob_match.specs.Answers.{Unescapes, unescape_leaves, unescape_told}
use Rattle.storing.proofs.Keeping.{bytes, keep-few, unescape-few}

-- ---- how many bytes are told
told-long : (x : Keep) (m : ℕ) {s : Stored} → Ok s ≡ keep_answer x m → s.size ≡ length (bytes x)
unfolding keep_answer
told-long (kept j b) m {s} e = by (leb (length b) m) e
  where
    by : (t : Bool) → ◌≡◌ {A = Result Stored Refusal} (Ok s) (cond t (Ok (record { class = j; size = length b })) (Err no.NoRoom)) → s.size ≡ length b
    by true e = let z : s ≡ record { class = j; size = length b } = cc in ap (λ (v : Stored). v.size) z
    by false e = let z : ◌≡◌ {A = ℕ} 0 1 = cc in absurd (omega arith)
told-long (refused j) m e = let z : ◌≡◌ {A = ℕ} 0 1 = cc in absurd (omega arith)

-- ---- the class
module _ (t : List ℕ) where
  pub class-over : token_limit < length t → 1 ≡ class_told t
  unfolding class_told
  class-over h = rw (lt-ltb token_limit (length t) h)

  pub class-within : length t ≤ token_limit → (k : Class) → k ≡ class_of t → (n : ℕ) → n ≡ class_number k → 256 * n ≡ class_told t
  unfolding class_told
  class-within h k e n q = rw (le-ltb token_limit (length t) h, ← e, q)

-- ---- a pattern without its escapes; r is what `unescape_pattern` answers, and d' what it leaves of the buffer d
module _ (t d : List ℕ) where
  pub unescape-over : token_limit < length t → Unescapes t d 1 d
  unfolding unescape_told unescape_leaves
  unescape-over h = (rw (lt-ltb token_limit (length t) h), rw (lt-ltb token_limit (length t) h))

  module _ (h : length t ≤ token_limit) (r : Result Stored Refusal) (d' : List ℕ) (a : Stores (kept Escaped (unescape t)) d r d') where
    within : unescape_told t (length d) ≡ length_told r
    unfolding unescape_told
    within = rw (le-ltb token_limit (length t) h, ← a.0)

    leaves : d' ≡ unescape_leaves t d
    unfolding unescape_leaves
    leaves = rw (le-ltb token_limit (length t) h) a.1

    pub unescape-refused : (n : Refusal) → r ≡ Err n → (v : ℕ) → v ≡ number n → Unescapes t d v d'
    unfolding length_told
    unescape-refused n q v j = (j ∙ sym (within ∙ rw q), leaves)

    module _ (s : Stored) (q : r ≡ Ok s) where
      pub unescape-short : s.size ≤ token_limit
      unescape-short = omega (arith, told-long (kept Escaped (unescape t)) (length d) (sym q ∙ a.0), unescape-few t)

      pub unescape-done : Unescapes t d (256 * s.size) d'
      unfolding length_told
      unescape-done = (sym (within ∙ rw q), leaves)

-- ---- a token as it is stored; r is what `store_token` answers
module _ (e : Edition) (t : List ℕ) (m : ℕ) (r : Result Stored Refusal) (a : r ≡ keep_answer (keep e t) m) where
  pub store-refused : (n : Refusal) → r ≡ Err n → (v : ℕ) → v ≡ number n → v ≡ store_told (keep_answer (keep e t) m)
  unfolding store_told
  store-refused n q v j = rw (← a, q) j

  module _ (s : Stored) (q : r ≡ Ok s) (j : ℕ) (c : j ≡ class_number s.class) where
    pub store-done : 256 * (j + 8 * s.size) ≡ store_told (keep_answer (keep e t) m)
    unfolding store_told
    store-done = rw (← a, q, c)

    pub store-small : (j ≤ all_class) × (s.size ≤ token_limit)
    store-small = (omega (arith, class-few s.class), omega (arith, told-long (keep e t) m (sym q ∙ a), keep-few e t))

-- ---- a pattern p and a name n
module _ (p n : List ℕ) where
  pub pattern_over : token_limit < length p → over token_limit p || over name_limit n ≡ true
  pattern_over h = rw (lt-ltb token_limit (length p) h)

  module _ (h : length p ≤ token_limit) where
    pub name-over : name_limit < length n → over token_limit p || over name_limit n ≡ true
    name-over g = rw (le-ltb token_limit (length p) h, lt-ltb name_limit (length n) g)

    none_over : length n ≤ name_limit → over token_limit p || over name_limit n ≡ false
    none_over g = rw (le-ltb token_limit (length p) h, le-ltb name_limit (length n) g)

module _ (e : Edition) (p n : List ℕ) where
  module _ (o : over token_limit p || over name_limit n ≡ true) where
    pub match_over : 1 ≡ match_told e p n
    unfolding match_told
    match_over = rw o

    pub unasked-over : 1 ≡ unasked_told e p n
    unfolding unasked_told
    unasked-over = rw o

  module _ (h : length p ≤ token_limit) (g : length n ≤ name_limit) where
    -- m is what `match_name` answers, and v what `told` makes of it
    module _ (m : Tried) (t : m ≡ match_of e p n) (v : ℕ) (a : v ≡ answer_told m.matched) where
      pub unasked-done : v ≡ unasked_told e p n
      unfolding unasked_told match_of
      unasked-done = rw (none_over p n h g) (a ∙ rw t)

    -- c is what `pattern_refusal` answers, and u what `is_utf8` does
    module _ (c : Result (Unit {0}) Refusal) (r : c ≡ refusal e p) where
      pub match_refused : (x : Refusal) → c ≡ Err x → (v : ℕ) → v ≡ number x → v ≡ match_told e p n
      unfolding match_told match_when
      match_refused x z v j = rw (none_over p n h g, ← r, z) j

      module _ (x : Unit {0}) (z : c ≡ Ok x) (u : Bool) (w : u ≡ utf8 n) where
        pub match_not_utf8 : u ≡ false → 9 ≡ match_told e p n
        unfolding match_told match_when
        match_not_utf8 f = rw (none_over p n h g, ← r, z, ← w, f)

        pub match_done : u ≡ true → (m : Tried) → m ≡ match_of e p n → (v : ℕ) → v ≡ answer_told m.matched → v ≡ match_told e p n
        unfolding match_told match_when match_of
        match_done f m t v a = rw (none_over p n h g, ← r, z, ← w, f) (a ∙ rw t)
