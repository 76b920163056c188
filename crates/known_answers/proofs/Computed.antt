-- The values of RULES 'Values', each by computing.
-- Assumes nothing.
use mathlib.Core.Path.{refl}
use Rattle.numbers.specs.Bits.{◌⊕◌, bit}
use Rattle.numbers.specs.Signed.{signed_in}
use Rattle.numbers.specs.Packing.{bits_of, bits_in, gather, numbers_in}
use Rattle.fcs.specs.Fcs.{step, fcs}
use Rattle.framing.specs.Stuffing.{escape, stuff}
use Rattle.framing.specs.Frame.{low_first, enclosed, frame_of}
use Rattle.collecting.specs.Step.{collected, unescaped, inside, checked, closed, taken, next, answer_to, shown}
use Rattle.collecting.specs.Stream.{reply, reply_to, answers}
use Rattle.codec.specs.Reading.{fit, reading}
use Rattle.heartbeat.specs.Heartbeat.{heartbeat_in}
use Rattle.c_report.specs.Flat.{track_from}
use Rattle.report.specs.Marks.{position_of, altitude_of, speed_of, climb_of}
use Rattle.report.specs.Bytes.{report_in}
use Rattle.report.specs.Reading.{good_position, good_report}
use Rattle.messages.specs.Message.{kind_in, read_message}
use Rattle.information_frames.specs.Walk.{frames_before, walk, payload_frames}
use Rattle.information_frames.specs.Answers.{frame_list, data_in}
use Rattle.information_frames.specs.Contents.{content_of, contents}
use Rattle.information_frames.specs.Samples.{bytes_of, rows, textual}
use Rattle.characters.specs.Characters.{character_of, place_in, code_of}
use Rattle.generic_text.specs.Texts.{text_of_codes}
use Rattle.generic_text.specs.Product.{decode, header_of, code_bytes, encode}
use Rattle.known_answers.specs.Row.{Holds, texts_in, done, ◌and◌}
use Rattle.known_answers.specs.Values.{Starred, Examples}

pub starred_hold : Starred
unfolding Holds ◌⊕◌ bit signed_in bits_of bits_in step fcs escape stuff low_first enclosed frame_of collected unescaped inside checked closed taken next answer_to shown reply reply_to answers fit reading heartbeat_in track_from position_of altitude_of speed_of climb_of report_in good_position good_report kind_in read_message frames_before walk payload_frames frame_list
starred_hold = refl and refl and refl and refl and refl and refl and refl and refl and refl and refl and refl and refl and refl and refl and refl and refl and refl and refl and refl and refl and refl and refl and refl and refl and refl and refl and refl and refl and refl and done

pub examples_hold : Examples
unfolding Holds ◌⊕◌ bit signed_in bits_of bits_in step fcs escape stuff low_first enclosed frame_of fit reading heartbeat_in track_from position_of altitude_of speed_of climb_of report_in good_position good_report kind_in read_message frames_before walk payload_frames data_in content_of contents bytes_of rows textual gather numbers_in character_of place_in code_of text_of_codes decode header_of code_bytes encode texts_in
examples_hold = refl and refl and refl and refl and refl and refl and refl and refl and refl and done
