-- 01's limits, last accepted. An export list is a script here. Assumes nothing.
use Rattle.std.specs.Prelude.{ℕ, List, Bool, ltb, length}

-- "script, text, trimmed token or name over its limit"
abbrev pub over : ℕ → List ℕ → Bool
over limit s = ltb limit (length s)

-- "script 1,048,576 bytes"
abbrev pub script_limit : ℕ
script_limit = 1048576

-- "token or `add_symbol` text 65,536"
abbrev pub token_limit : ℕ
token_limit = 65536

-- "raw name or wanted version 4,096, demangled 65,536": a match takes either name, so the larger; who looks a raw name up asks the smaller before
abbrev pub name_limit : ℕ
name_limit = 65536

-- "nodes 1,024 with node 0"
abbrev pub node_limit : ℕ
node_limit = 1024

-- "lines 16,384"
abbrev pub line_limit : ℕ
line_limit = 16384

-- "pool 2,097,152"
abbrev pub pool_limit : ℕ
pool_limit = 2097152

-- "edits 4,096"
abbrev pub edit_limit : ℕ
edit_limit = 4096

-- "raw name or wanted version 4,096"
abbrev pub raw_name_limit : ℕ
raw_name_limit = 4096

-- the same of a wanted version
abbrev pub version_limit : ℕ
version_limit = raw_name_limit
