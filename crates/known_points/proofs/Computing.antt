-- How tables of known points are proved: by computing. To unfold `computing` is to unfold every definition from a quoted text to what a trial book answers, so
-- that both sides of a point are one value. A table above names it, and its own definitions. Assumes nothing.
use Prim.Native.Nat.{ℕ}
use Rattle.lists.specs.Each.{any, every}
use Rattle.lists.specs.Pieces.{pieces, pieces_past, sound, sound_past}
use Rattle.lists.specs.Same.{same}
use Rattle.lists.specs.Texts.{codes}
use Rattle.packing.specs.Padding.{all_zero, pad}
use Rattle.packing.specs.Tables.{fine, packed, packs, rows, things}
use Rattle.linker_script.specs.Finding.{first_in, first_from}
use Rattle.linker_script.specs.Skip.{blank, move, skip_past, skip}
use Rattle.linker_script.specs.Trim.{white, trim_end}
use Rattle.utf8.specs.Utf8.{scalar, character, none, when, tail, two, three, four, starts, read, chars, utf8}
use Rattle.pattern.specs.Patterns.{holds, some_holds, member, inside, between, takes, bracketed, opened, element, elements}
use Rattle.pattern.specs.Patterns.{ended, first, somewhere, matches, refusal}
use Rattle.pattern.specs.Runs.{squeezed_past, squeezed}
use Rattle.pattern.specs.Storing.{stored_byte, negated_from, negated, stored}
use Rattle.classes.specs.Classes.{quoted, unquoted, lone_star, nonstar, scanned, scan, class_of}
use Rattle.storing.specs.Keeping.{unescaped, unescape, keep_when, keep_glob, keep_as, inside_kept, keep}
use Rattle.reading_tokens.specs.Tokens.{begins, named, name_in, to_semicolon, to_brace, to_either, bare_extern_end, bare_end, bare_skip}
use Rattle.reading_cursors.specs.Moves.{start}
use Rattle.reading_matchers.specs.Matchers.{line_to, extern_open, extern_at, extern_inside, in_extern, in_bare, matcher, bare_line, bare_matcher}
use Rattle.reading_bodies.specs.Bodies.{name_to, node_at, script_at, parent_to, parent_at, node_end, sole_end, inside_body, body_at, sole_at, list_at}
use Rattle.reading.specs.Scripts.{opening_at, start_script, go_node, go_body, go_sole, go_list, step_at, next}
use Rattle.reading.specs.Events.{reading_within, reading_from, reading}
use Rattle.book.specs.Books.{first_named}
use Rattle.book.specs.Edits.{add_back, all_back, journal_fits, strike_back, take_back}
use Rattle.book.specs.Layout.{counts_of, edit_form, laid_out, line_form, node_form}
use Rattle.book.specs.Sanity.{bare_star, content_good, edit_ok, glob_stands, in_range, kind_allows, kind_good, line_ok, name_good, named_good, nodes_good}
use Rattle.book.specs.Sanity.{offset_good, parent_good, sane, some_star}
use Rattle.book.specs.View.{book_of, laid, view, within_limits}
use Rattle.book.specs.View as view
use Rattle.book_rooms.specs.Rooms.{edit_room, line_room, node_room}
use Rattle.book_building.specs.Building.{take_event, take_kept, take_node, take_parent}
use Rattle.book_opening.specs.Opening.{build, build_reading, cleared, kind_of, left, nothing_yet, opening, told}
use Rattle.ranking.specs.Matching.{class_matches, line_matches, seen}
use Rattle.ranking.specs.Names.{bad_name, long_name, name_refusal}
use Rattle.ranking.specs.Walk.{deciding, exact_of, exact_stages, first_line, glob_of, glob_stages, stages, walk}
use Rattle.counting.specs.Questions.{counted, node_of, node_told, version_count}
use Rattle.lookups.specs.Lookups.{index_of, last_named, listed, listed_as, locality_asked, locality_of, node_version, version_asked, version_of, wanted_version}
use Rattle.export_list.specs.Membership.{contains_asked, member_of}
use Rattle.trial.specs.Changes.{after, counts_after, edited}
use Rattle.trial.specs.Trial.{add_asked, append, append_kept, may_stand, settle_asked, settled, standing, strike_asked, strike_line, undo_asked, without_latest}
use Rattle.trial.specs.Symbols.{add_event, add_events, add_reading, symbol_asked}

-- ---- what is kept of a token, and what it matches
unfoldable pub keeping : ℕ
unfolding codes pieces pieces_past sound sound_past same any every
    scalar character none when tail two three four starts read chars utf8
    holds some_holds member inside between takes bracketed opened element elements ended first somewhere matches refusal
    squeezed_past squeezed stored_byte negated_from negated stored
    quoted unquoted lone_star nonstar scanned scan class_of
    unescaped unescape keep_when keep_glob keep_as inside_kept keep
keeping = 0

-- ---- the events of a text
unfoldable pub reading_texts : ℕ
unfolding first_in first_from
    blank move skip_past skip white trim_end
    start
    begins named name_in to_semicolon to_brace to_either bare_extern_end bare_end bare_skip
    line_to extern_open extern_at extern_inside in_extern in_bare matcher bare_line bare_matcher
    name_to node_at script_at parent_to parent_at node_end sole_end inside_body body_at sole_at list_at opening_at
    start_script go_node go_body go_sole go_list step_at next
    reading_within reading_from reading
reading_texts = 0

-- ---- a book that is opened, laid out and seen again
unfoldable pub opening_books : ℕ
unfolding all_zero pad fine packed packs rows things
    first_named add_back all_back journal_fits strike_back take_back counts_of edit_form laid_out line_form node_form
    bare_star content_good edit_ok glob_stands in_range kind_allows kind_good line_ok name_good named_good nodes_good offset_good parent_good sane
    some_star
    book_of laid view within_limits view.holds
    edit_room line_room node_room take_event take_kept take_node take_parent
    build build_reading cleared kind_of left nothing_yet opening told
opening_books = 0

-- ---- what it is asked
unfoldable pub asking : ℕ
unfolding class_matches line_matches seen bad_name long_name name_refusal
    deciding exact_of exact_stages first_line glob_of glob_stages stages walk
    counted node_of node_told version_count
    index_of last_named listed listed_as locality_asked locality_of node_version version_asked version_of wanted_version
    contains_asked member_of
asking = 0

-- ---- what edits come to
unfoldable pub editing : ℕ
unfolding after counts_after edited
    add_asked append append_kept may_stand settle_asked settled standing strike_asked strike_line undo_asked without_latest
    add_event add_events add_reading symbol_asked
editing = 0

-- ---- all of it
unfoldable pub computing : ℕ
unfolding keeping reading_texts opening_books asking editing
computing = 0
