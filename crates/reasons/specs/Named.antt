-- What request 03 says of the line that is named, and that version, locality and membership are read off it. Assumes nothing.
use Rattle.std.specs.Prelude.{ℕ, Bool, ◌<◌, ◌≡◌, List, [], true, false, cond, ◌↔◌, ◌⊎◌, eqb, length, Option, Some, None, Result, Ok, Err}
use Rattle.numbers.specs.Marks.{global}
use Rattle.numbers.specs.declared.Refusal.{Refusal}
use Rattle.numbers.specs.declared.Refusal.TheVariants as no
use Rattle.numbers.specs.Saying.{refusal_of}
use Rattle.book.specs.declared.Counts.{Counts}
use Rattle.book.specs.Books.{Node, Book, book_frame, edition_of, export, regular, rust}
use Rattle.book.specs.Edits.{line_at}
use Rattle.book.specs.Layout.{Buffers}
use Rattle.book.specs.Sanity.{bare_star, name_at}
use Rattle.book.specs.View.{view}
use Rattle.ranking.specs.Matching.{Name, line_matches}
use Rattle.ranking.specs.Names.{name_refusal}
use Rattle.ranking.specs.Ranks.{Decides}
use Rattle.lookups.specs.declared.answers.Locality.TheVariants as locality
use Rattle.lookups.specs.Lookups.{LocalityAnswer, VersionAnswer, indexed, listed_as, locality_asked, long_wanted, node_version, version_asked, wanted_version}
use Rattle.export_list.specs.Membership.{contains_asked}
use Rattle.reasons.specs.declared.Reason.{Reason}
use Rattle.reasons.specs.declared.Why.TheVariants as why
use Rattle.reasons.specs.Why.{WhyAnswer, reason, why_asked}

-- ---- the line that is named: all that is told of it is its own
abbrev pub Told : Book → Reason → Type 0
Told w r = r ≡ reason r.line (line_at w.lines r.line)

-- "The line must match the name and none ahead of it in 01's ranking may; at equal rank the lowest number is named" (`Decides` of ranking says it so)
abbrev pub Ranked : Book → Name → ℕ → Type 0
Ranked w n i = Decides (length w.nodes) (line_matches (edition_of (book_frame w)) n) w.lines i

-- "or that no line matches"
abbrev pub Unmatched : Book → Name → Type 0
Unmatched w n = (i : ℕ) → i < length w.lines → line_matches (edition_of (book_frame w)) n (line_at w.lines i) ≡ false

-- "For the Rust kind it names the first listed line equal to the name": line i is it
pub record FirstListed (w : Book) (t : List ℕ) (i : ℕ) : Type 0 where
  pub there : i < length w.lines
  pub equal : listed_as t (line_at w.lines i) ≡ true
  pub first : (j : ℕ) → j < i → listed_as t (line_at w.lines j) ≡ false

-- "else the first general local All line"
pub record FirstStar (w : Book) (t : List ℕ) (i : ℕ) : Type 0 where
  pub unlisted : (j : ℕ) → j < length w.lines → listed_as t (line_at w.lines j) ≡ false
  pub there : i < length w.lines
  pub star : bare_star (line_at w.lines i) ≡ true
  pub first : (j : ℕ) → j < i → bare_star (line_at w.lines j) ≡ false

-- "It says "wanted version" when the `@` part decided": "A wanted version that is empty gives 1, a known one its index"; of a node that has a
-- name
abbrev pub Known : Book → List ℕ → Type 0
Known w v = (v ≡ []) ⊎ ((i : ℕ) × ((0 < i) × (i < length w.nodes) × (name_at w.nodes i ≡ v)))

-- ---- what `why` answers of a name that is not refused
pub record Explained (w : Book) (n : Name) : Type 0 where
  pub ranked : (w.kind ≡ rust → ⊥) → (r : Reason) → (why_asked (Some w) n None ≡ Ok (why.Line r)) ↔ (Ranked w n r.line × Told w r)
  pub unmatched : (w.kind ≡ rust → ⊥) → (why_asked (Some w) n None ≡ Ok why.NoLine) ↔ Unmatched w n
  pub listed : w.kind ≡ rust → (v : Option (List ℕ)) → name_refusal n (long_wanted v) ≡ Ok tt → (r : Reason)
      → (why_asked (Some w) n v ≡ Ok (why.Line r)) ↔ ((FirstListed w n.raw r.line ⊎ FirstStar w n.raw r.line) × Told w r)
  -- of the Rust kind a line is always named
  pub always : w.kind ≡ rust → (v : Option (List ℕ)) → name_refusal n (long_wanted v) ≡ Ok tt → (r : Reason) × (why_asked (Some w) n v ≡ Ok (why.Line r))
  -- of a Regular book the `@` part decides where there is one, and an unknown version is refused
  pub wanted : w.kind ≡ regular → (v : List ℕ) → name_refusal n (long_wanted (Some v)) ≡ Ok tt
      → ((why_asked (Some w) n (Some v) ≡ Ok why.Wanted) ↔ Known w v) × ((Known w v → ⊥) → why_asked (Some w) n (Some v) ≡ Err no.UnknownVersion)

-- of every book that buffers hold, and every name that the lookup does not refuse
abbrev pub Explains : Type 0
Explains = (c : Counts) (b : Buffers) (w : Book) → view c b ≡ Some w → (n : Name) → name_refusal n false ≡ Ok tt → Explained w n

-- ---- version, locality and membership, read off what is answered. An answer that a question without a version does not have is read as none
abbrev pub wanted_off : List Node → Option (List ℕ) → VersionAnswer
wanted_off xs (Some v) = indexed (wanted_version xs v)
wanted_off xs None = Ok None

abbrev pub version_off : List Node → Option (List ℕ) → WhyAnswer → VersionAnswer
version_off xs v (Ok (why.Line r)) = Ok (node_version r.node)
version_off xs v (Ok why.NoLine) = Ok None
version_off xs v (Ok why.Wanted) = wanted_off xs v
version_off xs v (Err e) = Err e

abbrev pub locality_off : WhyAnswer → LocalityAnswer
locality_off (Ok (why.Line r)) = Ok (Some (cond (eqb r.section global) locality.Global locality.Local))
locality_off (Ok why.NoLine) = Ok None
locality_off (Ok why.Wanted) = Ok None
locality_off (Err e) = Err e

abbrev pub membership_off : WhyAnswer → Result Bool Refusal
membership_off (Ok (why.Line r)) = Ok true
membership_off (Ok why.NoLine) = Ok false
membership_off (Ok why.Wanted) = Ok false
membership_off (Err e) = Err e

-- for every book and name: `why` never disagrees with the lookup
pub record Agrees (w : Book) (n : Name) : Type 0 where
  pub version : (w.kind ≡ export → ⊥) → (v : Option (List ℕ)) → version_asked (Some w) n v ≡ version_off w.nodes v (why_asked (Some w) n v)
  pub locality : (w.kind ≡ export → ⊥) → locality_asked (Some w) n ≡ locality_off (why_asked (Some w) n None)
  pub membership : w.kind ≡ export → contains_asked (Some w) n ≡ membership_off (why_asked (Some w) n None)
  -- "Refusals: those of the lookup"; a version is wanted of no export list
  pub refusal : (w.kind ≡ export → ⊥) → (v : Option (List ℕ)) → refusal_of (why_asked (Some w) n v) ≡ refusal_of (version_asked (Some w) n v)
  pub unasked : w.kind ≡ export → (v : List ℕ) → why_asked (Some w) n (Some v) ≡ Err no.WrongKind

abbrev pub LookupsAgree : Type 0
LookupsAgree = (c : Counts) (b : Buffers) (w : Book) → view c b ≡ Some w → (n : Name) → Agrees w n
