-- The archives of specs/Samples, computed.
-- Assumes nothing.
use Rattle.std.specs.Prelude.{refl}
use Rattle.format.specs.Digits.{digits, value, bits_of, bytes_of}
use Rattle.format.specs.Tables.{position}
use Rattle.format.specs.Body.{laid}
use Rattle.format.specs.Ledger.{ledger, read_ledger}
use Rattle.format.specs.Whole.{entries_of, laids, ledgers, body_of, content_of, ledger_of}
use Rattle.format.specs.Whole.{counted, content_as, ledger_read}
use Rattle.format.specs.Convert.{exact, all_exact, converted}
use Rattle.ledger_text.specs.Text.{digits_before, decimal, spaced, refusal_line, placed}
use Rattle.ledger_convert.specs.Archive.{size_in_front, cut, ledgers_in, written, reported, outputs, reports}
use Rattle.ledger_convert.specs.Archive.{archive_output, archive_report}
use Rattle.ledger_convert.specs.Samples.{ArchivesHold}

pub archives_hold : ArchivesHold
unfolding archive_output archive_report outputs reports written reported ledgers_in cut size_in_front placed refusal_line spaced decimal digits_before converted exact all_exact entries_of ledger_read content_as counted read_ledger ledger_of content_of laids ledgers ledger laid body_of bits_of bytes_of digits value position
archives_hold = (refl, refl, refl, refl, refl, refl)
