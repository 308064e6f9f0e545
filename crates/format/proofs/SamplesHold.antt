-- The samples of specs/Samples and RedactSamples: each list is shown whole, by computation.
-- Assumes nothing.
use Rattle.std.specs.Prelude.{refl}
use Rattle.format.specs.Digits.{digits, value, bits_of, bytes_of, twos, splice}
use Rattle.format.specs.Tables.{position, fragment, association, beamhopping, header, position3}
use Rattle.format.specs.Body.{read_body, laid}
use Rattle.format.specs.Ledger.{ledger, read_ledger}
use Rattle.format.specs.Whole.{entries_of, walk, read_as, body_read_as, laids, ledgers, body_of, content_of, ledger_of, counted, content_as, ledger_read}
use Rattle.format.specs.ByName.{first_by}
use Rattle.format.specs.Calls.{answer, left, filed, relaid, restored, write_answer, write_left, read_answer, read_left}
use Rattle.format.specs.Convert.{exact, all_exact, converted, convert_answer, convert_left}
use Rattle.format.specs.Redact.{is_flag, is_part, redact, satellites, redacted, redact_answer, redact_left}
use Rattle.format.specs.Samples.{AllHold, p1_to_p12, ledger_samples, edition_2_samples, extension_samples, call_samples, convert_samples}
use Rattle.format.specs.RedactSamples.{redact_samples}

pub samples_hold : AllHold p1_to_p12
unfolding p1_to_p12 filed relaid body_read_as read_as walk read_body bits_of bytes_of digits value ledger_of content_of body_of laids ledgers ledger laid position fragment association beamhopping header position3 entries_of first_by twos
samples_hold = (refl, ((refl, refl), (refl, (refl, ((refl, refl), ((refl, refl), ((refl, refl), (refl, (refl, (refl, (refl, (refl, tt))))))))))))

pub ledger_samples_hold : AllHold ledger_samples
unfolding ledger_samples restored ledger_read content_as counted read_ledger body_of laids laid bits_of bytes_of digits value position fragment association beamhopping header position3
ledger_samples_hold =
    (refl, (refl, (refl, (refl, (refl, (refl, ((refl, refl), (refl, (refl, (refl, (refl, (refl, ((refl, refl), (refl, ((refl, refl), (refl, tt))))))))))))))))

pub edition_2_samples_hold : AllHold edition_2_samples
unfolding edition_2_samples filed relaid body_read_as read_as walk read_body ledger_of content_of ledgers ledger restored ledger_read content_as counted read_ledger body_of laids laid bits_of bytes_of digits value position beamhopping
edition_2_samples_hold =
    (refl, (refl, (refl, (refl, (refl, (refl, (refl, (refl, (refl, (refl, (refl, ((refl, refl), ((refl, refl), ((refl, refl), ((refl, refl), ((refl, refl), ((refl, refl), ((refl, refl), (refl, (refl, (refl, (refl, (refl, (refl, (refl, (refl, (refl, (refl, (refl, (refl, (refl, tt)))))))))))))))))))))))))))))))

pub extension_samples_hold : AllHold extension_samples
unfolding extension_samples filed relaid body_read_as read_as walk read_body ledger_of content_of ledgers ledger restored ledger_read content_as counted read_ledger body_of laids laid bits_of bytes_of digits value fragment association beamhopping
extension_samples_hold =
    (refl, (refl, ((refl, refl), ((refl, refl), ((refl, refl), ((refl, refl), ((refl, refl), ((refl, refl), ((refl, refl), ((refl, refl), ((refl, refl), ((refl, refl), ((refl, refl), ((refl, refl), (refl, (refl, ((refl, refl), ((refl, refl), ((refl, refl), ((refl, refl), tt))))))))))))))))))))

pub call_samples_hold : AllHold call_samples
unfolding call_samples write_answer write_left read_answer read_left answer left splice filed body_read_as read_as walk read_body ledger_of content_of laids ledgers ledger laid restored ledger_read content_as counted read_ledger body_of bits_of bytes_of digits value position association
call_samples_hold = ((refl, refl), ((refl, refl), ((refl, refl), ((refl, refl), ((refl, refl), ((refl, refl), tt))))))

pub convert_samples_hold : AllHold convert_samples
unfolding convert_samples converted exact all_exact convert_answer convert_left answer left splice entries_of ledger_read content_as counted read_ledger ledger_of content_of laids ledgers ledger laid body_of bits_of bytes_of digits value position association beamhopping
convert_samples_hold =
    (refl, (refl, (refl, (refl, (refl, (refl, (refl, (refl, (refl, (refl, (refl, (refl, (refl, (refl, (refl, (refl, (refl, (refl, (refl, (refl, (refl, (refl, (refl, (refl, (refl, (refl, (refl, (refl, (refl, (refl, (refl, (refl, (refl, (refl, (refl, (refl, (refl, (refl, (refl, ((refl, refl), ((refl, refl), ((refl, refl), ((refl, refl), ((refl, refl), ((refl, refl), tt)))))))))))))))))))))))))))))))))))))))))))))

pub redact_samples_hold : AllHold redact_samples
unfolding redact_samples redacted redact satellites is_flag is_part redact_answer redact_left answer left splice ledger_read content_as counted read_ledger ledger_of content_of laids ledgers ledger laid body_of bits_of bytes_of digits value position fragment association beamhopping header position3
redact_samples_hold =
    (refl, (refl, (refl, (refl, (refl, (refl, (refl, (refl, (refl, (refl, (refl, (refl, (refl, (refl, (refl, (refl, (refl, (refl, (refl, (refl, (refl, (refl, (refl, (refl, (refl, (refl, (refl, (refl, (refl, (refl, (refl, (refl, (refl, (refl, (refl, (refl, (refl, (refl, (refl, (refl, (refl, (refl, (refl, ((refl, refl), ((refl, refl), ((refl, refl), ((refl, refl), ((refl, refl), ((refl, refl), ((refl, refl), ((refl, refl), tt)))))))))))))))))))))))))))))))))))))))))))))))))))
