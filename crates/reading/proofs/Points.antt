-- The known readings hold of the definitions: each side computes to the other. Assumes nothing.
use mathlib.Core.Path.{refl}
use Rattle.lists.specs.Texts.{codes}
use Rattle.linker_script.specs.Finding.{first_in, first_from}
use Rattle.linker_script.specs.Skip.{blank, move, skip_past, skip}
use Rattle.linker_script.specs.Trim.{white, trim_end}
use Rattle.reading_tokens.specs.Tokens.{begins, named, name_in, to_semicolon, to_brace, to_either, bare_extern_end, bare_end, bare_skip}
use Rattle.reading_cursors.specs.Moves.{start}
use Rattle.reading_matchers.specs.Matchers.{line_to, extern_open, extern_at, extern_inside, in_extern, in_bare, matcher, bare_line, bare_matcher}
use Rattle.reading_bodies.specs.Bodies.{name_to, node_at, script_at, parent_to, parent_at, node_end, sole_end, inside_body, body_at, sole_at, list_at}
use Rattle.reading.specs.Scripts.{opening_at, start_script, go_node, go_body, go_sole, go_list, step_at, next}
use Rattle.reading.specs.Events.{reading_within, reading_from, reading}
use Rattle.reading.specs.KnownReadings.{as_script, as_list, as_symbol, as_bare, lines, KnownReadings}

pub known_readings : KnownReadings
unfolding first_in first_from
    blank move skip_past skip white trim_end
    start
    begins named name_in to_semicolon to_brace to_either bare_extern_end bare_end bare_skip
    line_to extern_open extern_at extern_inside in_extern in_bare matcher bare_line bare_matcher
    name_to node_at script_at parent_to parent_at node_end sole_end inside_body body_at sole_at list_at opening_at
    start_script go_node go_body go_sole go_list step_at next
    reading_within reading_from reading
    codes as_script as_list as_symbol as_bare lines
known_readings =
    record {
      languages = record { other = refl; two_blanks = refl; ends = refl; within = refl };
      braces = record { empty = refl; none_left = refl; no_pattern = refl };
      remaining = record { comment = (refl, refl); before = (refl, refl); outer = refl; in_body = (refl, refl) };
      sections = record { both = (refl, refl); in_extern = (refl, refl); blank = (refl, refl) };
      closings = record { in_body = (refl, refl); in_extern = (refl, refl); in_list = refl };
      nodes = record { comment = refl; missing = refl; semicolon = refl; return = refl; raw = refl; behind = refl };
      tokens = record { white = (refl, refl); empty = refl };
      empty = record { script = refl; comment = refl; list = refl; bare = (refl, refl) };
      points = record { p9 = refl; p10 = refl };
      bare =
          record {
            semicolon = (refl, refl);
            brace = (refl, refl);
            comment = refl;
            comment_brace = (refl, refl);
            comment_ends = (refl, refl);
            comment_behind = (refl, refl);
          };
      blocks = record { behind = refl; bare = refl; plain = refl };
    }
