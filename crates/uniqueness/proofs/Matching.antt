-- What stores a token and matches a name leaves one answer and one end state: pattern, matching, pattern_check, classes, storing, glob_match. Assumes nothing.
use mathlib.Core.Path.{refl}
use Rattle.uniqueness.specs.Unique.{Unique}
use Rattle.uniqueness.proofs.Same.{◌▹◌, same}
use Rattle.pattern.specs.contracts.bracket.mark_at
use Rattle.pattern.proofs.bracket.mark_at.Reads as mark_at_reads
use Rattle.pattern.specs.contracts.bracket.between_length
use Rattle.pattern.proofs.bracket.between_length.Reads as between_length_reads
use Rattle.pattern.specs.contracts.bracket.bracket_takes
use Rattle.pattern.proofs.bracket.bracket_takes.Reads as bracket_takes_reads
use Rattle.matching.specs.contracts.match_name
use Rattle.matching.proofs.match_name.Reads as match_name_reads
use Rattle.pattern_check.specs.contracts.pattern_refusal
use Rattle.pattern_check.proofs.pattern_refusal.Reads as pattern_refusal_reads
use Rattle.classes.specs.contracts.class_number
use Rattle.classes.proofs.class_number.Reads as class_number_reads
use Rattle.classes.specs.contracts.analyze_glob_pattern
use Rattle.classes.proofs.analyze_glob_pattern.Reads as analyze_glob_pattern_reads
use Rattle.classes.specs.contracts.is_quoted
use Rattle.classes.proofs.is_quoted.Reads as is_quoted_reads
use Rattle.classes.specs.contracts.is_lone_star
use Rattle.classes.proofs.is_lone_star.Reads as is_lone_star_reads
use Rattle.classes.specs.contracts.classify
use Rattle.classes.proofs.classify.Reads as classify_reads
use Rattle.storing.specs.contracts.unescape_pattern
use Rattle.storing.proofs.unescape_pattern.Reads as unescape_pattern_reads
use Rattle.storing.specs.contracts.store_token
use Rattle.storing.proofs.store_token.Reads as store_token_reads
use Rattle.storing.specs.contracts.runs.has_room
use Rattle.storing.proofs.runs.has_room.Reads as has_room_reads
use Rattle.storing.specs.contracts.runs.copy_kept
use Rattle.storing.proofs.runs.copy_kept.Reads as copy_kept_reads
use Rattle.storing.specs.contracts.runs.is_as_stored
use Rattle.storing.proofs.runs.is_as_stored.Reads as is_as_stored_reads
use Rattle.glob_match.specs.contracts.exports.glob_match_class
use Rattle.glob_match.proofs.exports.glob_match_class.Reads as glob_match_class_reads
use Rattle.glob_match.specs.contracts.exports.glob_match_unescape
use Rattle.glob_match.proofs.exports.glob_match_unescape.Reads as glob_match_unescape_reads
use Rattle.glob_match.specs.contracts.exports.glob_match_store
use Rattle.glob_match.proofs.exports.glob_match_store.Reads as glob_match_store_reads
use Rattle.glob_match.specs.contracts.exports.glob_match_matches
use Rattle.glob_match.proofs.exports.glob_match_matches.Reads as glob_match_matches_reads
use Rattle.glob_match.specs.contracts.exports.glob_match_tried
use Rattle.glob_match.proofs.exports.glob_match_tried.Reads as glob_match_tried_reads

-- ---- pattern
pub mark_at_unique : Unique mark_at.ended mark_at_reads.Post
mark_at_unique κs a x y v w p q = (same p q, refl)

pub between_length_unique : Unique between_length.ended between_length_reads.Post
between_length_unique κs a x y v w p q = (same p q, refl)

pub bracket_takes_unique : Unique bracket_takes.ended bracket_takes_reads.Post
bracket_takes_unique κs a x y v w p q = (same p q, refl)

-- ---- matching
pub match_name_unique : Unique match_name.ended match_name_reads.Post
match_name_unique κs a x y v w p q = (same p q, refl)

-- ---- pattern_check
pub pattern_refusal_unique : Unique pattern_refusal.ended pattern_refusal_reads.Post
pattern_refusal_unique κs a x y v w p q = (same p q, refl)

-- ---- classes
pub class_number_unique : Unique class_number.ended class_number_reads.Post
class_number_unique κs a x y v w p q = (same p q, refl)

pub analyze_glob_pattern_unique : Unique analyze_glob_pattern.ended analyze_glob_pattern_reads.Post
analyze_glob_pattern_unique κs a x y v w p q = (same p q, refl)

pub is_quoted_unique : Unique is_quoted.ended is_quoted_reads.Post
is_quoted_unique κs a x y v w p q = (same p q, refl)

pub is_lone_star_unique : Unique is_lone_star.ended is_lone_star_reads.Post
is_lone_star_unique κs a x y v w p q = (same p q, refl)

pub classify_unique : Unique classify.ended classify_reads.Post
classify_unique κs a x y v w p q = (same p q, refl)

-- ---- storing
pub unescape_pattern_unique : Unique unescape_pattern.ended unescape_pattern_reads.Post
unescape_pattern_unique κs a x y v w p q = (same p.0 q.0, λ i. tt ▹ same p.1 q.1 i ▹ tt)

pub store_token_unique : Unique store_token.ended store_token_reads.Post
store_token_unique κs a x y v w p q = (same p.0 q.0, λ i. tt ▹ tt ▹ same p.1 q.1 i ▹ tt)

pub has_room_unique : Unique has_room.ended has_room_reads.Post
has_room_unique κs a x y v w p q = (same p q, refl)

pub copy_kept_unique : Unique copy_kept.ended copy_kept_reads.Post
copy_kept_unique κs a x y v w p q = (same p.0 q.0, λ i. tt ▹ tt ▹ same p.1 q.1 i ▹ tt)

pub is_as_stored_unique : Unique is_as_stored.ended is_as_stored_reads.Post
is_as_stored_unique κs a x y v w p q = (same p q, refl)

-- ---- glob_match
pub glob_match_class_unique : Unique glob_match_class.ended glob_match_class_reads.Post
glob_match_class_unique κs a x y v w p q = (same p q, refl)

pub glob_match_unescape_unique : Unique glob_match_unescape.ended glob_match_unescape_reads.Post
glob_match_unescape_unique κs a x y v w p q = (same p.0 q.0, λ i. tt ▹ same p.1 q.1 i ▹ tt)

pub glob_match_store_unique : Unique glob_match_store.ended glob_match_store_reads.Post
glob_match_store_unique κs a x y v w p q = (same p.0 q.0, λ i. tt ▹ same p.1 q.1 i ▹ tt)

pub glob_match_matches_unique : Unique glob_match_matches.ended glob_match_matches_reads.Post
glob_match_matches_unique κs a x y v w p q = (same p q, refl)

pub glob_match_tried_unique : Unique glob_match_tried.ended glob_match_tried_reads.Post
glob_match_tried_unique κs a x y v w p q = (same p q, refl)
