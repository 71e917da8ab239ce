-- Words, names and the ends of tokens, as 01 has them under 'Reading'. Assumes nothing.
use Rattle.std.specs.Prelude.{ℕ, ◌+◌, ◌-◌, List, [], ◌∷◌, Bool, true, false, not, cond, ◌&&◌, ◌||◌, eqb, ltb, length, drop, Option, Some, None, Result, Ok, Err}
use Rattle.numbers.specs.declared.Edition.{Edition}
use Rattle.numbers.specs.declared.Refusal.{Refusal}
use Rattle.numbers.specs.declared.Refusal.TheVariants as no
use Rattle.numbers.specs.Signs.{closing_brace, closing_paren, line_feed, opening_brace, opening_paren, semicolon, space, tab}
use Rattle.linker_script.specs.Finding.{closes, first_from, found_any, is}
use Rattle.linker_script.specs.Parts.{part}
use Rattle.linker_script.specs.Trim.{trim_end}

-- whether the text l begins with the word w
unfoldable pub begins : List ℕ → List ℕ → Bool
begins [] l = true
begins (x ∷ w) [] = false
begins (x ∷ w) (b ∷ l) = eqb b x && begins w l

-- whether the word w stands at the place p
abbrev pub stands_at : List ℕ → List ℕ → ℕ → Bool
stands_at w s p = begins w (drop p s)

-- "one or more bytes outside space ( ) { } LF tab"
unfoldable pub named : ℕ → Bool
named b =
    not (eqb b space || (eqb b opening_paren || (eqb b closing_paren || (eqb b opening_brace || (eqb b closing_brace || (eqb b line_feed || eqb b tab))))))

-- the end q behind the place p where the name goes on there, else p
abbrev pub longer : Bool → ℕ → ℕ → ℕ
longer true p q = q
longer false p q = p

-- where the bytes of a name end in the text l, which begins at the place p
unfoldable pub name_in : ℕ → List ℕ → ℕ
name_in p [] = p
name_in p (b ∷ l) = longer (named b) p (name_in (p + 1) l)

abbrev pub name_end : List ℕ → ℕ → ℕ
name_end s p = name_in p (drop p s)

-- ---- where a token ends that starts at the place p, in an edition
-- its end, or why it is refused
abbrev pub TokenEnd : Type 0
TokenEnd = Result ℕ Refusal

-- "at least one byte"; `n` says no where the end is missing
abbrev pub end_at : ℕ → Refusal → Option ℕ → TokenEnd
end_at p n (Some q) = cond (ltb p q) (Ok q) (Err no.Unreadable)
end_at p n None = Err n

-- "the bytes up to the first `;`, at least one"
unfoldable pub to_semicolon : Edition → List ℕ → ℕ → TokenEnd
to_semicolon e s p = end_at p no.Unreadable (first_from (is semicolon) s p)

-- "goes instead to the first `}` (at least one byte)"; "an extern token to `}` with no `}` left" is refused 3
unfoldable pub to_brace : Edition → List ℕ → ℕ → TokenEnd
to_brace e s p = end_at p no.Unclosed (first_from (is closing_brace) s p)

-- "when the remaining text has no `};`, or has one with no `;` before it"
abbrev pub no_semicolon_before : Option ℕ → Option ℕ → Bool
no_semicolon_before (Some c) (Some q) = ltb c q
no_semicolon_before (Some c) None = true
no_semicolon_before None q = true

abbrev pub brace_next : Edition → List ℕ → ℕ → Bool
brace_next e s p = no_semicolon_before (first_from closes s p) (first_from (is semicolon) s p)

-- "In an extern block a token goes instead to the first `}` … when"
unfoldable pub to_either : Edition → List ℕ → ℕ → TokenEnd
to_either e s p = cond (brace_next e s p) (to_brace e s p) (to_semicolon e s p)

-- "An extern block there differs in one point: with no `};` left, tokens go to `;`."
unfoldable pub bare_extern_end : Edition → List ℕ → ℕ → TokenEnd
bare_extern_end e s p = cond (found_any (first_from closes s p)) (to_either e s p) (to_semicolon e s p)

-- "a bare token goes to the first `}` (at least one byte); where there is none it is all the text, empty too"
unfoldable pub bare_end : Edition → List ℕ → TokenEnd
bare_end e s = end_bare (first_from (is closing_brace) s 0)
  where
    end_bare : Option ℕ → TokenEnd
    end_bare (Some q) = end_at 0 no.Unreadable (Some q)
    end_bare None = Ok (length s)

-- "and the skip after it starts at the text's first byte": else it starts at the token's end
unfoldable pub bare_skip : Edition → List ℕ → ℕ
bare_skip e s = from (first_from (is closing_brace) s 0)
  where
    from : Option ℕ → ℕ
    from (Some q) = q
    from None = 0

-- how long the token from p to q is without its trailing blanks
abbrev pub trimmed : List ℕ → ℕ → ℕ → ℕ
trimmed s p q = length (trim_end (part s p (q - p)))
