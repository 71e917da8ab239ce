-- What is kept of a token, or what refuses it. Assumes nothing.
use Rattle.std.specs.Prelude.{Result, Ok, Err, ℕ, List, [], ◌∷◌, Bool, cond, eqb}
use Rattle.numbers.specs.Limits.{over, token_limit}
use Rattle.numbers.specs.declared.Refusal.{Refusal}
use Rattle.numbers.specs.declared.Refusal.TheVariants as no
use Rattle.numbers.specs.Signs.{backslash}
use Rattle.lists.specs.Pieces.{piece, Reader, pieces}
use Rattle.numbers.specs.declared.Edition.{Edition}
use Rattle.pattern.specs.Patterns.{refusal}
use Rattle.pattern.specs.Storing.{stored}
use Rattle.classes.specs.declared.Class.{Class}
use Rattle.classes.specs.declared.Class.TheVariants.{Exact, Escaped, NonStar, Star, All}
use Rattle.classes.specs.Classes.{class_of, class_unquoted, quoted, unquoted}

-- "Escaped is stored unescaped; a final `\` stays"
unfoldable pub unescaped : Reader ℕ ℕ
unescaped c [] = piece c 0
unescaped c (d ∷ s) = cond (eqb c backslash) (piece d 1) (piece c 0)

unfoldable pub unescape : List ℕ → List ℕ
unescape t = pieces unescaped t

-- a class and the bytes that are stored, or a refusal
pub data Keep : Type 0 where
  kept : Class → List ℕ → Keep
  refused : Refusal → Keep

-- what is made of it, where its bytes have room, and of the refusal: "its 1, 5, 6, 8, in this order"
abbrev pub kept_where : {A : Type 0} → (List ℕ → Bool) → (Class → List ℕ → A) → (Refusal → A) → Keep → A
kept_where fits made says (kept k b) = cond (fits b) (made k b) (says no.NoRoom)
kept_where fits made says (refused n) = says n

unfoldable pub keep_when : Result (Unit {0}) Refusal → Class → List ℕ → Keep
keep_when (Ok _) k b = kept k b
keep_when (Err n) k b = refused n

-- "A glob must be UTF-8; each `[^` is stored as `[!`", and 02, request 01: "a run outside a bracket is kept as one star". "No closing `]`: refused", asked of
-- what would be stored
unfoldable pub keep_glob : Edition → Class → List ℕ → Keep
keep_glob e k t = keep_when (refusal e (stored e t)) k (stored e t)

-- by the class; "All (length 0)"
unfoldable pub keep_as : Edition → Class → List ℕ → Keep
keep_as e Exact t = kept Exact t
keep_as e Escaped t = kept Escaped (unescape t)
keep_as e NonStar t = keep_glob e NonStar t
keep_as e Star t = keep_glob e Star t
keep_as e All t = kept All []

-- without a look at quotes
unfoldable pub keep_scanned : Edition → List ℕ → Keep
keep_scanned e t = keep_as e (class_unquoted t) t

-- "starts and ends with `"` …: Exact, inside kept"
unfoldable pub inside_kept : List ℕ → List ℕ
inside_kept t = cond (quoted t) (unquoted t) t

-- "trimmed token … over its limit", quotes counted, then by its class
unfoldable pub keep : Edition → List ℕ → Keep
keep e t = cond (over token_limit t) (refused no.TooLong) (keep_as e (class_of t) (inside_kept t))
