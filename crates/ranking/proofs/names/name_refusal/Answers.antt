-- `name_refusal` meets its contract, by the laws of NameTests. Assumes nothing.
use Rattle.std.proofs.Common.{sym, ◌∙◌}
use Rattle.ranking.proofs.NameTests.{too_long, raw_bad, demangled_bad, names_good}
use Rattle.ranking.proofs.names.name_refusal.Goals.{else-is_utf8-via-then-is_utf8+else-is_utf8-2, else-is_utf8-via-else-is_utf8}
use Rattle.ranking.proofs.names.name_refusal.Goals as goal

pub returns-then-raw-gt-RAW_NAME_LIMIT : goal.returns-then-raw-gt-RAW_NAME_LIMIT
returns-then-raw-gt-RAW_NAME_LIMIT c = search too_long

pub returns-then-is_utf8-2 : goal.returns-then-is_utf8-2
returns-then-is_utf8-2 c =
    names_good _ _ _ c.if-raw-gt-RAW_NAME_LIMIT.false c.if-demangled-gt-NAME_LIMIT.false c.if-long.false
    (sym c.if-is_utf8.true ∙ c.is_utf8.ensures) (sym c.if-is_utf8-2.true ∙ c.is_utf8-then-is_utf8.ensures)

pub returns-else-is_utf8 : goal.returns-else-is_utf8
returns-else-is_utf8 c = elim c.else-is_utf8.branch [
  | else-is_utf8-via-then-is_utf8+else-is_utf8-2 w ↦
      demangled_bad _ _ _ c.if-raw-gt-RAW_NAME_LIMIT.false c.if-demangled-gt-NAME_LIMIT.false c.if-long.false
      (sym w.if-is_utf8.true ∙ c.is_utf8.ensures) (sym w.if-is_utf8-2.false ∙ w.is_utf8-then-is_utf8.ensures)
  | else-is_utf8-via-else-is_utf8 w ↦
      raw_bad _ _ _ c.if-raw-gt-RAW_NAME_LIMIT.false c.if-demangled-gt-NAME_LIMIT.false c.if-long.false
      (sym w.if-is_utf8.false ∙ c.is_utf8.ensures)
]
