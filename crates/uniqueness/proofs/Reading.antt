-- What reads a text leaves one answer and one end state: numbers, linker_script, utf8, reading_tokens, reading_cursors, reading_matchers, reading_bodies,
-- reading, reading_rows, input, desk_commands. Assumes nothing.
use Prim.Native.Nat.{ℕ}
use mathlib.Core.Path.{◌≡◌, refl, sym, ap, ◌∙◌}
use mathlib.Core.List.{List}
use mathlib.Core.Bool.{cond}
use lib.Dec.{eqb}
use Rattle.std.specs.Prelude.{Option, Some, None, Result, Ok, Err}
use Rattle.std.proofs.lemmas.Option.{same_Some}
use lib.ListN.{length}
use lib.Seq.{length-take-le}
use Rattle.linker_script.specs.Trim.{trim_end}
use Rattle.numbers.specs.declared.NoRefusal.{NoRefusal}
use Rattle.numbers.specs.declared.Refusal.{Refusal}
use Rattle.numbers.specs.declared.Refusal.TheVariants as no
use Rattle.numbers.specs.Refusals.{too_long, unreadable, unclosed, bad_extern, glob_not_utf8, bad_pattern, unknown_parent, no_room, name_not_utf8}
use Rattle.numbers.specs.Refusals.{unknown_version, no_such, nothing_to_undo, wrong_kind, no_book}
use Rattle.numbers.specs.Saying.{Tells, number as number_of}
use Rattle.uniqueness.specs.Unique.{Unique, UniqueAs}
use Rattle.uniqueness.specs.Promises.{Trimmed}
use Rattle.uniqueness.proofs.Same.{◌▹◌, same}
use Rattle.numbers.specs.contracts.Refusal.number
use Rattle.numbers.proofs.Refusal.number.Reads as number_reads
use Rattle.numbers.specs.contracts.RefusalTryFromU32.try_from
use Rattle.numbers.proofs.RefusalTryFromU32.try_from.Reads as try_from_reads
use Rattle.numbers.specs.contracts.EditionFromU32.from as edition_from
use Rattle.numbers.proofs.EditionFromU32.from.Reads as edition_from_reads
use Rattle.linker_script.specs.contracts.byte_at
use Rattle.linker_script.proofs.byte_at.Reads as byte_at_reads
use Rattle.linker_script.specs.contracts.last_close
use Rattle.linker_script.proofs.last_close.Reads as last_close_reads
use Rattle.linker_script.specs.contracts.trimmed_length
use Rattle.linker_script.proofs.trimmed_length.Reads as trimmed_length_reads
use Rattle.linker_script.specs.contracts.trim_ascii_end
use Rattle.linker_script.proofs.trim_ascii_end.Reads as trim_ascii_end_reads
use Rattle.linker_script.specs.contracts.searching.find
use Rattle.linker_script.proofs.searching.find.Reads as find_reads
use Rattle.linker_script.specs.contracts.comments.find_pair
use Rattle.linker_script.proofs.comments.find_pair.Reads as find_pair_reads
use Rattle.linker_script.specs.contracts.comments.skip_comments_and_whitespace
use Rattle.linker_script.proofs.comments.skip_comments_and_whitespace.Reads as skip_comments_and_whitespace_reads
use Rattle.utf8.specs.contracts.character_at
use Rattle.utf8.proofs.character_at.Reads as character_at_reads
use Rattle.utf8.specs.contracts.is_utf8
use Rattle.utf8.proofs.is_utf8.Reads as is_utf8_reads
use Rattle.reading_tokens.specs.contracts.try_take
use Rattle.reading_tokens.proofs.try_take.Reads as try_take_reads
use Rattle.reading_tokens.specs.contracts.parse_token
use Rattle.reading_tokens.proofs.parse_token.Reads as parse_token_reads
use Rattle.reading_tokens.specs.contracts.to_semicolon
use Rattle.reading_tokens.proofs.to_semicolon.Reads as to_semicolon_reads
use Rattle.reading_tokens.specs.contracts.extern_end
use Rattle.reading_tokens.proofs.extern_end.Reads as extern_end_reads
use Rattle.reading_tokens.specs.contracts.bare_extern_end
use Rattle.reading_tokens.proofs.bare_extern_end.Reads as bare_extern_end_reads
use Rattle.reading_tokens.specs.contracts.bare_end
use Rattle.reading_tokens.proofs.bare_end.Reads as bare_end_reads
use Rattle.reading_tokens.specs.contracts.bare_skip
use Rattle.reading_tokens.proofs.bare_skip.Reads as bare_skip_reads
use Rattle.reading_tokens.specs.contracts.names.is_named
use Rattle.reading_tokens.proofs.names.is_named.Reads as is_named_reads
use Rattle.reading_cursors.specs.contracts.places.PlaceFromU32.from as place_from
use Rattle.reading_cursors.proofs.places.PlaceFromU32.from.Reads as place_from_reads
use Rattle.reading_cursors.specs.contracts.start_at
use Rattle.reading_cursors.proofs.start_at.Reads as start_at_reads
use Rattle.reading_cursors.specs.contracts.move_to
use Rattle.reading_cursors.proofs.move_to.Reads as move_to_reads
use Rattle.reading_cursors.specs.contracts.with_section
use Rattle.reading_cursors.proofs.with_section.Reads as with_section_reads
use Rattle.reading_cursors.specs.contracts.with_language
use Rattle.reading_cursors.proofs.with_language.Reads as with_language_reads
use Rattle.reading_cursors.specs.contracts.refuse
use Rattle.reading_cursors.proofs.refuse.Reads as refuse_reads
use Rattle.reading_cursors.specs.contracts.skip_at
use Rattle.reading_cursors.proofs.skip_at.Reads as skip_at_reads
use Rattle.reading_matchers.specs.contracts.in_extern
use Rattle.reading_matchers.proofs.in_extern.Reads as in_extern_reads
use Rattle.reading_matchers.specs.contracts.in_bare
use Rattle.reading_matchers.proofs.in_bare.Reads as in_bare_reads
use Rattle.reading_matchers.specs.contracts.parse_matcher
use Rattle.reading_matchers.proofs.parse_matcher.Reads as parse_matcher_reads
use Rattle.reading_matchers.specs.contracts.parse_bare_matcher
use Rattle.reading_matchers.proofs.parse_bare_matcher.Reads as parse_bare_matcher_reads
use Rattle.reading_bodies.specs.contracts.node_at
use Rattle.reading_bodies.proofs.node_at.Reads as node_at_reads
use Rattle.reading_bodies.specs.contracts.script_at
use Rattle.reading_bodies.proofs.script_at.Reads as script_at_reads
use Rattle.reading_bodies.specs.contracts.body_at
use Rattle.reading_bodies.proofs.body_at.Reads as body_at_reads
use Rattle.reading_bodies.specs.contracts.sole_at
use Rattle.reading_bodies.proofs.sole_at.Reads as sole_at_reads
use Rattle.reading_bodies.specs.contracts.list_at
use Rattle.reading_bodies.proofs.list_at.Reads as list_at_reads
use Rattle.reading.specs.contracts.scripts.next_event
use Rattle.reading.proofs.scripts.next_event.Reads as next_event_reads
use Rattle.reading_rows.specs.contracts.reading_events
use Rattle.reading_rows.proofs.reading_events.Reads as reading_events_reads
use Rattle.input.specs.contracts.positions.position_of
use Rattle.input.proofs.positions.position_of.Reads as position_of_reads
use Rattle.input.specs.contracts.splitting.find_mark
use Rattle.input.proofs.splitting.find_mark.Reads as find_mark_reads
use Rattle.input.specs.contracts.splitting.find_at
use Rattle.input.proofs.splitting.find_at.Reads as find_at_reads
use Rattle.input.specs.contracts.splitting.part_before
use Rattle.input.proofs.splitting.part_before.Reads as part_before_reads
use Rattle.input.specs.contracts.splitting.part_behind
use Rattle.input.proofs.splitting.part_behind.Reads as part_behind_reads
use Rattle.input.specs.contracts.splitting.line_end
use Rattle.input.proofs.splitting.line_end.Reads as line_end_reads
use Rattle.desk_commands.specs.contracts.parts.number_at
use Rattle.desk_commands.proofs.parts.number_at.Reads as number_at_reads
use Rattle.desk_commands.specs.contracts.parts.tail
use Rattle.desk_commands.proofs.parts.tail.Reads as tail_reads
use Rattle.desk_commands.specs.contracts.command_of
use Rattle.desk_commands.proofs.command_of.Reads as command_of_reads

-- ---- numbers
pub number_unique : Unique number.ended number_reads.Post
number_unique κs a x y v w p q = (same p q, refl)

-- the refusal of a number
named : ℕ → Option Refusal
named n =
    cond (eqb n too_long) (Some no.TooLong)
    (cond (eqb n unreadable) (Some no.Unreadable)
    (cond (eqb n unclosed) (Some no.Unclosed)
    (cond (eqb n bad_extern) (Some no.BadExtern)
    (cond (eqb n glob_not_utf8) (Some no.GlobNotUtf8)
    (cond (eqb n bad_pattern) (Some no.BadPattern)
    (cond (eqb n unknown_parent) (Some no.UnknownParent)
    (cond (eqb n no_room) (Some no.NoRoom)
    (cond (eqb n name_not_utf8) (Some no.NameNotUtf8)
    (cond (eqb n unknown_version) (Some no.UnknownVersion)
    (cond (eqb n no_such) (Some no.NoSuch)
    (cond (eqb n nothing_to_undo) (Some no.NothingToUndo)
    (cond (eqb n wrong_kind) (Some no.WrongKind)
    (cond (eqb n no_book) (Some no.NoBook) None)))))))))))))

named_by : (e : Refusal) → named (number_of e) ≡ Some e
unfolding named
named_by no.TooLong = refl
named_by no.Unreadable = refl
named_by no.Unclosed = refl
named_by no.BadExtern = refl
named_by no.GlobNotUtf8 = refl
named_by no.BadPattern = refl
named_by no.UnknownParent = refl
named_by no.NoRoom = refl
named_by no.NameNotUtf8 = refl
named_by no.UnknownVersion = refl
named_by no.NoSuch = refl
named_by no.NothingToUndo = refl
named_by no.WrongKind = refl
named_by no.NoBook = refl

-- no two refusals have one number
number-one : (e f : Refusal) → number_of e ≡ number_of f → e ≡ f
number-one e f h = same_Some e f (sym (named_by e) ∙ ap named h ∙ named_by f)

-- a number has one refusal, or none
tells-one : (n : ℕ) (x y : Result Refusal NoRefusal) → Tells n x → Tells n y → x ≡ y
tells-one n (Ok e) (Ok f) p q = ap Ok (number-one e f (same p q))
tells-one n (Ok e) (Err g) p q = absurd (q.1 e p)
tells-one n (Err g) (Ok e) p q = absurd (p.1 e q)
tells-one n (Err g) (Err h) p q = ap Err (λ i. record { 0 = same p.0 q.0 i })

pub try_from_unique : Unique try_from.ended try_from_reads.Post
try_from_unique κs a x y v w p q = (tells-one a.0 x y p q, refl)

pub edition_from_unique : Unique edition_from.ended edition_from_reads.Post
edition_from_unique κs a x y v w p q = (same p q, refl)

-- ---- linker_script
pub byte_at_unique : Unique byte_at.ended byte_at_reads.Post
byte_at_unique κs a x y v w p q = (same p q, refl)

pub last_close_unique : Unique last_close.ended last_close_reads.Post
last_close_unique κs a x y v w p q = (same p q, refl)

-- its promise is of the part of the text that it leaves, which is as long as it says
trimmed-long : (s : List ℕ) (r : ℕ) → Trimmed s r → r ≡ length (trim_end s)
trimmed-long s r e = sym (length-take-le r s e.0) ∙ ap length e.1

pub trimmed_length_unique : Unique trimmed_length.ended trimmed_length_reads.Post
trimmed_length_unique κs a x y v w p q = (same (trimmed-long a.0.now x p) (trimmed-long a.0.now y q), refl)

-- where the slice lies, and what it holds
pub trim_ascii_end_unique : UniqueAs trim_ascii_end.ended (λ κs. (ℕ × ℕ) × List ℕ) (λ κs r. (r.ref_ptr, r.now)) trim_ascii_end_reads.Post
trim_ascii_end_unique κs a x y v w p q = (λ i. (same p.1 q.1 i, same p.0 q.0 i), refl)

-- ---- linker_script: searching
pub find_unique : Unique find.ended find_reads.Post
find_unique κs a x y v w p q = (same p q, refl)

-- ---- linker_script: comments
pub find_pair_unique : Unique find_pair.ended find_pair_reads.Post
find_pair_unique κs a x y v w p q = (same p q, refl)

pub skip_comments_and_whitespace_unique : Unique skip_comments_and_whitespace.ended skip_comments_and_whitespace_reads.Post
skip_comments_and_whitespace_unique κs a x y v w p q = (same p q, refl)

-- ---- utf8
pub character_at_unique : Unique character_at.ended character_at_reads.Post
character_at_unique κs a x y v w p q = (same p q, refl)

pub is_utf8_unique : Unique is_utf8.ended is_utf8_reads.Post
is_utf8_unique κs a x y v w p q = (same p q, refl)

-- ---- reading_tokens
pub try_take_unique : Unique try_take.ended try_take_reads.Post
try_take_unique κs a x y v w p q = (same p q, refl)

pub parse_token_unique : Unique parse_token.ended parse_token_reads.Post
parse_token_unique κs a x y v w p q = (same p q, refl)

pub to_semicolon_unique : Unique to_semicolon.ended to_semicolon_reads.Post
to_semicolon_unique κs a x y v w p q = (same p q, refl)

pub extern_end_unique : Unique extern_end.ended extern_end_reads.Post
extern_end_unique κs a x y v w p q = (same p q, refl)

pub bare_extern_end_unique : Unique bare_extern_end.ended bare_extern_end_reads.Post
bare_extern_end_unique κs a x y v w p q = (same p q, refl)

pub bare_end_unique : Unique bare_end.ended bare_end_reads.Post
bare_end_unique κs a x y v w p q = (same p q, refl)

pub bare_skip_unique : Unique bare_skip.ended bare_skip_reads.Post
bare_skip_unique κs a x y v w p q = (same p q, refl)

pub is_named_unique : Unique is_named.ended is_named_reads.Post
is_named_unique κs a x y v w p q = (same p q, refl)

-- ---- reading_cursors
pub place_from_unique : Unique place_from.ended place_from_reads.Post
place_from_unique κs a x y v w p q = (same p q, refl)

pub start_at_unique : Unique start_at.ended start_at_reads.Post
start_at_unique κs a x y v w p q = (same p q, refl)

pub move_to_unique : Unique move_to.ended move_to_reads.Post
move_to_unique κs a x y v w p q = (same p q, refl)

pub with_section_unique : Unique with_section.ended with_section_reads.Post
with_section_unique κs a x y v w p q = (same p q, refl)

pub with_language_unique : Unique with_language.ended with_language_reads.Post
with_language_unique κs a x y v w p q = (same p q, refl)

pub refuse_unique : Unique refuse.ended refuse_reads.Post
refuse_unique κs a x y v w p q = (same p q, refl)

pub skip_at_unique : Unique skip_at.ended skip_at_reads.Post
skip_at_unique κs a x y v w p q = (same p q, refl)

-- ---- reading_matchers
pub in_extern_unique : Unique in_extern.ended in_extern_reads.Post
in_extern_unique κs a x y v w p q = (same p q, refl)

pub in_bare_unique : Unique in_bare.ended in_bare_reads.Post
in_bare_unique κs a x y v w p q = (same p q, refl)

pub parse_matcher_unique : Unique parse_matcher.ended parse_matcher_reads.Post
parse_matcher_unique κs a x y v w p q = (same p q, refl)

pub parse_bare_matcher_unique : Unique parse_bare_matcher.ended parse_bare_matcher_reads.Post
parse_bare_matcher_unique κs a x y v w p q = (same p q, refl)

-- ---- reading_bodies
pub node_at_unique : Unique node_at.ended node_at_reads.Post
node_at_unique κs a x y v w p q = (same p q, refl)

pub script_at_unique : Unique script_at.ended script_at_reads.Post
script_at_unique κs a x y v w p q = (same p q, refl)

pub body_at_unique : Unique body_at.ended body_at_reads.Post
body_at_unique κs a x y v w p q = (same p q, refl)

pub sole_at_unique : Unique sole_at.ended sole_at_reads.Post
sole_at_unique κs a x y v w p q = (same p q, refl)

pub list_at_unique : Unique list_at.ended list_at_reads.Post
list_at_unique κs a x y v w p q = (same p q, refl)

-- ---- reading
pub next_event_unique : Unique next_event.ended next_event_reads.Post
next_event_unique κs a x y v w p q = (same p q, refl)

-- ---- reading_rows
pub reading_events_unique : Unique reading_events.ended reading_events_reads.Post
reading_events_unique κs a x y v w p q = (same p.0 q.0, λ i. tt ▹ tt ▹ same p.1 q.1 i ▹ tt)

-- ---- input
pub position_of_unique : Unique position_of.ended position_of_reads.Post
position_of_unique κs a x y v w p q = (same p q, refl)

pub find_mark_unique : Unique find_mark.ended find_mark_reads.Post
find_mark_unique κs a x y v w p q = (same p q, refl)

pub find_at_unique : Unique find_at.ended find_at_reads.Post
find_at_unique κs a x y v w p q = (same p q, refl)

pub part_before_unique : UniqueAs part_before.ended (λ κs. List ℕ) (λ κs r. r.now) part_before_reads.Post
part_before_unique κs a x y v w p q = (same p q, refl)

pub part_behind_unique : UniqueAs part_behind.ended (λ κs. List ℕ) (λ κs r. r.now) part_behind_reads.Post
part_behind_unique κs a x y v w p q = (same p q, refl)

pub line_end_unique : Unique line_end.ended line_end_reads.Post
line_end_unique κs a x y v w p q = (same p.0 q.0, refl)

-- ---- desk_commands: parts
pub number_at_unique : Unique number_at.ended number_at_reads.Post
number_at_unique κs a x y v w p q = (same p q, refl)

-- what the slice holds; where it lies is not promised
pub tail_unique : UniqueAs tail.ended (λ κs. List ℕ) (λ κs r. r.now) tail_reads.Post
tail_unique κs a x y v w p q = (same p q, refl)

-- ---- desk_commands
pub command_of_unique : Unique command_of.ended command_of_reads.Post
command_of_unique κs a x y v w p q = (same p q, refl)
