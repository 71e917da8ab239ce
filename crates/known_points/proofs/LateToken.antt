-- A script of any length with one token behind blanks, `{`, n blanks, `a;};`, opens with the offset n + 2. Assumes nothing.
use Prim.Native.Nat.{ℕ, zero, suc, ◌+◌, ◌-◌, ◌<◌, ◌≤◌}
use mathlib.Core.Path.{◌≡◌, refl, sym, ap, ◌∙◌}
use mathlib.Core.List.{List, [], ◌∷◌, ◌++◌}
use mathlib.Core.Bool.{false}
use native.Mathlib.Omega.{arith}
use borrow.Author.Tests.{eq-eqb, le-ltb, lt-ltb}
use lib.ListN.{length, drop, replicate, length-append, length-replicate}
use Rattle.numbers.specs.Editions.{reld}
use Rattle.numbers.specs.Limits.{script_limit}
use Rattle.numbers.specs.Refusals.{too_long}
use Rattle.numbers.specs.Signs.{closing_brace, semicolon, space}
use Rattle.numbers.specs.declared.Edition.{Edition}
use Rattle.lists.specs.Texts.{codes}
use Rattle.std.specs.Prelude.{Some, Ok}
use Rattle.linker_script.specs.Finding.{first_from, first_in, is}
use Rattle.linker_script.specs.Skip.{blank, move, skip, skip_past, skips}
use Rattle.linker_script.specs.Trim.{trim_end, white}
use Rattle.reading_tokens.specs.Tokens.{begins, to_semicolon}
use Rattle.reading_cursors.specs.declared.Cursor.{Cursor}
use Rattle.reading_cursors.specs.declared.Event.TheVariants.{Body, Line}
use Rattle.reading_cursors.specs.Moves.{stepped, finished, edition_at, moved, start}
use Rattle.reading_cursors.specs.Places.{at_script, in_sole}
use Rattle.reading_matchers.specs.Matchers.{line_to, matcher}
use Rattle.reading_bodies.specs.Bodies.{inside_body, script_at, sole_at, sole_end}
use Rattle.reading.specs.Scripts.{go_sole, next, step_at, start_script}
use Rattle.reading.specs.Events.{accepted, and_then, reading}
use Rattle.reading.proofs.Onward.{next_stands, reading_step, start_stands}
use Rattle.reading.proofs.WholeNodes.{drop_behind, event_reads, first_byte, skip_here, skip-stays}
use Rattle.book_opening.specs.Opening.{as_script, opening, told}
use Rattle.known_points.specs.OffsetPoints.{late_token, opened_offsets}
use Rattle.known_points.specs.Tables.{rooms}
use Rattle.known_points.proofs.Computing.{computing}

-- `a;};`
abbrev tail : List ℕ
tail = 97 ∷ semicolon ∷ closing_brace ∷ semicolon ∷ []

skip_blanks : (e : Edition) (n p : ℕ) (l : List ℕ) → skip_past e 0 p (replicate n space ++ l) ≡ skip_past e 0 (p + n) l
unfolding skip_past move blank
skip_blanks e zero p l = let z : p + 0 ≡ p = omega arith in rw z
skip_blanks e (suc n) p l = let z : p + 1 + n ≡ p + suc n = omega arith in skip_blanks e n (p + 1) l ∙ ap (λ (k : ℕ). skip_past e 0 k l) z

pub late-long : (n : ℕ) → length (late_token n) ≡ n + 5
unfolding codes
late-long n = omega (arith, length-append (replicate n space) tail, length-replicate n space)

module _ (n : ℕ) (few : n + 5 ≤ script_limit) where
  abbrev s : List ℕ
  s = late_token n

  long : length s ≡ n + 5
  long = late-long n

  -- where the token stands
  abbrev p : ℕ
  p = 1 + n

  from-p : drop p s ≡ tail
  unfolding codes
  from-p = ap (λ (k : ℕ). drop (1 + k) s) (sym (length-replicate n space)) ∙ drop_behind s 1 (replicate n space) tail refl

  from_1 : drop (p + 1) s ≡ semicolon ∷ closing_brace ∷ semicolon ∷ []
  from_1 = drop_behind s p (97 ∷ []) (semicolon ∷ closing_brace ∷ semicolon ∷ []) from-p

  from_2 : drop (p + 2) s ≡ closing_brace ∷ semicolon ∷ []
  from_2 = drop_behind s p (97 ∷ semicolon ∷ []) (closing_brace ∷ semicolon ∷ []) from-p

  from_3 : drop (p + 3) s ≡ semicolon ∷ []
  from_3 = drop_behind s p (97 ∷ semicolon ∷ closing_brace ∷ []) (semicolon ∷ []) from-p

  from_4 : drop (p + 4) s ≡ []
  from_4 = drop_behind s p tail [] from-p

  -- ---- the steps of its reading
  c₀ : Cursor
  c₀ = start reld at_script

  c₁ : Cursor
  unfolding c₀
  c₁ = moved c₀ in_sole 1

  c₂ : Cursor
  unfolding c₀ c₁
  c₂ = moved c₁ in_sole (p + 2)

  opens-body : next s c₀ ≡ stepped Body c₁
  unfolding c₀ c₁ next step_at start_script script_at start blank
  opens-body =
      let k : skips (drop 0 s) 0 ≡ false = refl in
      rw (le-ltb script_limit (length s) (omega (arith, long)), skip_here s (edition_at c₀) 0 k)

  skips_blanks : skip (edition_at c₁) s 1 ≡ Ok p
  unfolding codes skip blank
  skips_blanks = skip_blanks (edition_at c₁) n 1 tail ∙ skip-stays (edition_at c₁) p tail refl

  token-ends : first_from (is semicolon) s p ≡ Some (p + 1)
  unfolding first_from first_in
  token-ends = rw from-p

  reads-line : next s c₁ ≡ stepped (Line 0 0 p 1) c₂
  unfolding c₀ c₁ c₂ next step_at go_sole sole_at inside_body matcher line_to to_semicolon trim_end white start begins blank
  reads-line =
      let k : skips (drop (p + 1) s) 0 ≡ false = rw from_1 in
      let z : p + 1 - p ≡ 1 = omega arith in
      let y : p + 1 + 1 ≡ p + 2 = omega arith in
      rw (
        skips_blanks,
        first_byte s p 97 (semicolon ∷ closing_brace ∷ semicolon ∷ []) from-p,
        from-p,
        token-ends,
        lt-ltb p (p + 1) (omega arith),
        skip_here s (edition_at c₁) (p + 1) k,
        z,
        from-p,
        first_byte s (p + 1) semicolon (closing_brace ∷ semicolon ∷ []) from_1,
        y,
      )

  ends-body : next s c₂ ≡ finished
  unfolding c₀ c₁ c₂ next step_at go_sole sole_at sole_end start blank
  ends-body =
      let j : skips (drop (p + 2) s) 0 ≡ false = rw from_2 in
      let k : skips (drop (p + 3) s) 0 ≡ false = rw from_3 in
      let l : skips (drop (p + 4) s) 0 ≡ false = rw from_4 in
      let y : p + 2 + 1 ≡ p + 3 = omega arith in
      let z : p + 3 + 1 ≡ p + 4 = omega arith in
      rw (
        skip_here s (edition_at c₂) (p + 2) j,
        first_byte s (p + 2) closing_brace (semicolon ∷ []) from_2,
        y,
        skip_here s (edition_at c₂) (p + 3) k,
        first_byte s (p + 3) semicolon [] from_3,
        z,
        skip_here s (edition_at c₂) (p + 4) l,
        eq-eqb (p + 4) (length s) (omega (arith, long)),
      )

  late-read : reading reld at_script s ≡ record { events = Body ∷ Line 0 0 p 1 ∷ []; outcome = accepted }
  unfolding reading c₀
  late-read =
      let k₀ = start_stands reld at_script s in
      let k₁ = next_stands k₀ opens-body in
      let k₂ = next_stands k₁ reads-line in
      event_reads k₀ opens-body ∙ ap (and_then Body) (event_reads k₁ reads-line ∙ ap (and_then (Line 0 0 p 1)) (reading_step k₂ ∙ rw ends-body))

  -- ---- and its opening
  pub late-opened : opened_offsets (opening as_script (rooms 1 0 1 1 0) s) ≡ (n + 2) ∷ []
  unfolding computing
  late-opened =
      let z : p + 1 ≡ n + 2 = omega arith in
      rw (le-ltb script_limit (length s) (omega (arith, long)), late-read, from-p, z)

pub late-over : (n : ℕ) → script_limit < n + 5 → (told (opening as_script (rooms 1 0 1 1 0) (late_token n))).refusal ≡ too_long
unfolding computing
late-over n h =
    let k : script_limit < length (late_token n) = omega (arith, late-long n) in
    rw (lt-ltb script_limit (length (late_token n)) k)
