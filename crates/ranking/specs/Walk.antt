-- The line that decides a name, as 01 has it under 'Ranking'. The source's own comments on the rule, which it takes from LLD: "1) The first version tag with
-- an exact pattern wins." "2) Otherwise, the last version tag with a non-* wildcard pattern wins ('global' should be checked first). Otherwise, the last
-- version tag with a * pattern wins." "3) Otherwise, the last version tag with match all (*)." 01 says besides in which order the four kinds of exact lines
-- of a node are asked. The ld manual ('VERSION Command') gives no order of patterns. It says that "if you specify the symbol name inside double quotes, then
-- the name is treated as literal", that names are demangled "before matching them to the patterns" of a language, and "You can bind all otherwise unspecified
-- symbols to a given version node by using 'global: *;' somewhere in the version script": `*` comes last. 01 departs from it in that several nodes may have a
-- `*`, of which the last counts, and from LLD, which knows two kinds of patterns, in that those without a star go before those with one. Assumes nothing.
use Rattle.std.specs.Prelude.{ℕ, zero, suc, ◌+◌, List, [], ◌∷◌, ◌++◌, Bool, cond, ◌&&◌, eqb, Option, Some, None}
use Rattle.numbers.specs.Classes.{all_class, by_bytes, nonstar_class, star_class}
use Rattle.numbers.specs.Marks.{cxx, general, global, local}
use Rattle.book.specs.declared.Frame.{Frame}
use Rattle.book.specs.Books.{Line, Book, book_frame, edition_of}
use Rattle.ranking.specs.Matching.{Name, line_matches}

-- a stage of the walk asks which lines it looks at
abbrev pub Stage : Type 0
Stage = Line → Bool

-- "exact or escaped", of a node, a language and a section
unfoldable pub exact_of : ℕ → ℕ → ℕ → Stage
exact_of node language section x =
    by_bytes x.class && (eqb x.node node && (eqb x.language language && eqb x.section section))

-- of another class, "(general or C++)"
unfoldable pub glob_of : ℕ → ℕ → ℕ → Stage
glob_of class node section x = eqb x.class class && (eqb x.node node && eqb x.section section)

-- "1. Nodes upward, exact or escaped: general global, general local, C++ global, C++ local."; n nodes from number i on
unfoldable pub exact_stages : ℕ → ℕ → List Stage
exact_stages zero i = []
exact_stages (suc n) i =
    exact_of i general global ∷ exact_of i general local ∷ exact_of i cxx global ∷ exact_of i cxx local ∷ exact_stages n (i + 1)

-- "2. Nodes downward, NonStar: global (general or C++), then local."; the first n nodes
unfoldable pub glob_stages : ℕ → ℕ → List Stage
glob_stages class zero = []
glob_stages class (suc n) = glob_of class n global ∷ glob_of class n local ∷ glob_stages class n

-- "3. The same with Star. 4. The same with All."
unfoldable pub stages : ℕ → List Stage
stages n = exact_stages n 0 ++ (glob_stages nonstar_class n ++ (glob_stages star_class n ++ glob_stages all_class n))

-- the number of the first line that passes a test, of lines that are numbered from i on
unfoldable pub first_line : (Line → Bool) → ℕ → List Line → Option ℕ
first_line t i [] = None
first_line t i (x ∷ xs) = cond (t x) (Some i) (first_line t (i + 1) xs)

abbrev pub or_else : Option ℕ → Option ℕ → Option ℕ
or_else (Some i) r = Some i
or_else None r = r

-- "The first match decides"
unfoldable pub walk : (Line → Bool) → List Stage → List Line → Option ℕ
walk m [] ls = None
walk m (t ∷ ts) ls = or_else (first_line (λ x. t x && m x) 0 ls) (walk m ts ls)

-- the number of the line that decides, of those that match at its stage the lowest: among the lines ls of a book with that frame
abbrev pub deciding_among : Frame → Name → List Line → Option ℕ
deciding_among f n ls = walk (line_matches (edition_of f) n) (stages f.nodes) ls

unfoldable pub deciding : Name → Book → Option ℕ
deciding n w = deciding_among (book_frame w) n w.lines
