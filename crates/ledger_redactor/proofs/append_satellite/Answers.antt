-- `append_satellite` lays what is in front of the flag, the flag, and what is behind it, one behind the other.
-- Assumes nothing.
use Rattle.ledger_redactor.proofs.Sizes.{in_pieces}
use Rattle.ledger_redactor.proofs.append_satellite.Goals as goal

pub returns : goal.returns
returns c = in_pieces c.args.ledger.now c.args.place c.args.end c.append-flag.ensures c.append-rest.ensures
    c.append.ensures
