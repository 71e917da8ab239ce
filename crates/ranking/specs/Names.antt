-- What refuses a name that is looked up, before any line is. Assumes nothing.
use Rattle.std.specs.Prelude.{Bool, cond, ◌&&◌, ◌||◌, not, Result, Ok, Err, ⊤}
use Rattle.numbers.specs.Limits.{name_limit, over, raw_name_limit}
use Rattle.numbers.specs.declared.Refusal.{Refusal}
use Rattle.numbers.specs.declared.Refusal.TheVariants as no
use Rattle.utf8.specs.Utf8.{utf8}
use Rattle.ranking.specs.Matching.{Name}

-- "name over its limit": "raw name … 4,096, demangled 65,536"
unfoldable pub long_name : Name → Bool
long_name n = over raw_name_limit n.raw || over name_limit n.demangled

-- "raw or demangled name not UTF-8"
unfoldable pub bad_name : Name → Bool
bad_name n = not (utf8 n.raw && utf8 n.demangled)

-- "1, 9", or neither; `long` says that what comes with the names, a wanted version, is over its limit
unfoldable pub name_refusal : Name → Bool → Result ⊤ Refusal
name_refusal n long = cond (long_name n || long) (Err no.TooLong) (cond (bad_name n) (Err no.NameNotUtf8) (Ok tt))
