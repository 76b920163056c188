-- The answers on an uplink payload's information frames, as C has them (RULES 'Structs for C'): the number, and the values, 0 with a refusal.
-- Assumes nothing.
use Rattle.std.specs.Prelude.{Result}
use Rattle.refusals.specs.declared.Refusal.{Refusal}
use Rattle.information_frames.specs.declared.Frame.{Frame}
use Rattle.information_frames.specs.declared.FrameList.{FrameList}
use Rattle.information_frames.specs.Answers.{list_count, list_end, found_frame, data_start}
use Rattle.gdl90.specs.declared.PayloadListAnswer.{PayloadListAnswer}
use Rattle.gdl90.specs.declared.PayloadNthAnswer.{PayloadNthAnswer}
use Rattle.refusals.specs.Numbers.{number_in}

abbrev pub payload_list_answer : Result FrameList Refusal → PayloadListAnswer
payload_list_answer l = record { number = number_in l; count = list_count l; end = list_end l }

abbrev pub payload_nth_answer : Result Frame Refusal → PayloadNthAnswer
payload_nth_answer f = record {
  number = number_in f;
  kind = (found_frame f).kind;
  reserved = (found_frame f).reserved;
  start = data_start f;
  length = (found_frame f).length;
}
