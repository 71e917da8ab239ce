-- `classify` meets its contract. Assumes nothing.
use Rattle.classes.proofs.Scanning.{class-quoted, class_all, class-scanned}
use Rattle.classes.proofs.classify.Goals as goal

pub returns-then-is_quoted : goal.returns-then-is_quoted
returns-then-is_quoted c = search class-quoted

pub returns-then-is_lone_star : goal.returns-then-is_lone_star
returns-then-is_lone_star c = search class_all

pub returns : goal.returns
returns c = search class-scanned
