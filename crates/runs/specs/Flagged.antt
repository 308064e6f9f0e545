-- What a satellite's flags say of what follows them, for the ledger's writer and reader.
-- Assumes nothing: these are definitions.
use Rattle.std.specs.Int.{from_bool}
use Rattle.format.specs.Syntax.{Syntax, when}
use Rattle.format.specs.Tables.{metadata, ephemerides}
use Rattle.runs.specs.declared.Flags.{Flags}

-- what follows the flags of a satellite of table 4
abbrev pub flagged : Flags → Syntax
flagged f =
    let entries : Syntax = ephemerides (from_bool f.acceleration) (from_bool f.covariance) in
    when f.metadata (metadata (from_bool f.start) (from_bool f.stop) entries) entries
