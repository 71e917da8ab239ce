-- Where a reading stands, and what a step of it answers. Assumes nothing.
use Rattle.std.specs.Prelude.{ℕ, ◌+◌, List, cond, eqb, length, get_or, Option, Some, None, Result, Ok, Err}
use Rattle.numbers.specs.declared.Edition.{Edition}
use Rattle.numbers.specs.Marks.{general, global}
use Rattle.numbers.specs.declared.Refusal.{Refusal}
use Rattle.numbers.specs.declared.Refusal.TheVariants as no
use Rattle.linker_script.specs.Skip.{Skipped, skip}
use Rattle.reading_cursors.specs.declared.Cursor.{Cursor}
use Rattle.reading_cursors.specs.declared.Event.{Event}
use Rattle.reading_cursors.specs.declared.places.Place.{Place}
use Rattle.reading_cursors.specs.declared.RefusedAt.{RefusedAt}

-- a reading starts at the text's first byte
unfoldable pub start : Edition → Place → Cursor
start edition place = record { at = 0; place = place; section = global; language = general; edition = edition }

-- the cursor moved to another place of the text and of the reading
abbrev pub moved : Cursor → Place → ℕ → Cursor
moved c place p = record { at = p; place = place; section = c.section; language = c.language; edition = c.edition }

-- with another section, or another language
abbrev pub in_section : Cursor → ℕ → Cursor
in_section c section = record { at = c.at; place = c.place; section = section; language = c.language; edition = c.edition }

abbrev pub in_language : Cursor → ℕ → Cursor
in_language c language = record { at = c.at; place = c.place; section = c.section; language = language; edition = c.edition }

-- the cursor's edition, and a skip in it
abbrev pub edition_at : Cursor → Edition
edition_at c = c.edition

abbrev pub skip_at : Cursor → List ℕ → ℕ → Skipped
skip_at c s p = skip (edition_at c) s p

-- ---- a step: an event and the cursor behind it, the end, or a refusal at a place
abbrev pub Step : Type 0
Step = Result (Option (Event × Cursor)) RefusedAt

abbrev pub stepped : Event → Cursor → Step
stepped e c = Ok (Some (e, c))

abbrev pub finished : Step
finished = Ok None

abbrev pub refused_at : Refusal → ℕ → Step
refused_at n p = Err (record { refusal = n; place = p })

-- what a skip is answered with: "`#` without LF, `/*` without `*/`" is refused 3
abbrev pub or_unclosed : Skipped → Result ℕ RefusedAt
or_unclosed (Ok p) = Ok p
or_unclosed (Err p) = Err (record { refusal = no.Unclosed; place = p })

-- ---- how a step goes on. A refusal has the place at which the rule began that failed: of a token, a parent text, a comment or an `extern `, its first byte;
-- else the byte where a name, `{`, `;` or the end was due
-- behind a skip
abbrev pub on_skip : Skipped → (ℕ → Step) → Step
on_skip (Ok p) on = on p
on_skip (Err p) on = refused_at no.Unclosed p

abbrev pub skipping : Cursor → List ℕ → ℕ → (ℕ → Step) → Step
skipping c s p on = on_skip (skip_at c s p) on

-- behind a byte that must stand there
abbrev pub expecting : ℕ → List ℕ → ℕ → (ℕ → Step) → Step
expecting b s p on = cond (eqb (get_or s p 0) b) (on (p + 1)) (refused_at no.Unreadable p)

-- where the text must end
abbrev pub ending : List ℕ → ℕ → Step
ending s p = cond (eqb p (length s)) finished (refused_at no.Unreadable p)
