-- RULES 'Values': the starred ones, 1 to 10, as one list, and the claim that every row holds. Then value 11, and
-- examples of 001.
-- Assumes nothing.
use Rattle.std.specs.Prelude.{List, [], ◌∷◌, pos, negsuc, Ok, Err}
use Rattle.collecting.specs.Stream.{message, refused}
use Rattle.message_types.specs.declared.Climb.TheVariants.{Steps}
use Rattle.refusals.specs.declared.Refusal.TheVariants.{WrongLength, BadField, PastTheEnd}
use Rattle.information_frames.specs.Samples.{bytes_of, textual}
use Rattle.known_answers.specs.Row.{Row, sequence, frame, shortest, longest, between, read, feet, header, list, texts, rewritten, heartbeat_with, traffic_message, traffic_with, report_of, AllHold}

abbrev pub starred : List Row
starred =
    -- 1: the heartbeat of 001 §2.2.4
    sequence (0x00 ∷ 0x81 ∷ 0x41 ∷ 0xDB ∷ 0xD0 ∷ 0x08 ∷ 0x02 ∷ []) 0x8BB3
    ∷ read (0x00 ∷ 0x81 ∷ 0x41 ∷ 0xDB ∷ 0xD0 ∷ 0x08 ∷ 0x02 ∷ []) (heartbeat_with 53467 1 2)
    -- 2
    ∷ sequence (0x01 ∷ 0x00 ∷ 0x00 ∷ []) 0x1021
    -- 3
    ∷ frame (0x7E ∷ []) (0x7E ∷ 0x7D ∷ 0x5E ∷ 0x7D ∷ 0x5E ∷ 0x00 ∷ 0x7E ∷ [])
    -- 4: 2n+6 bytes
    ∷ frame (0x7E ∷ 0x7D ∷ []) (0x7E ∷ 0x7D ∷ 0x5E ∷ 0x7D ∷ 0x5D ∷ 0x7D ∷ 0x5D ∷ 0x7D ∷ 0x5E ∷ 0x7E ∷ [])
    ∷ longest (0x7E ∷ 0x7D ∷ [])
    -- 5: value 1 with a flip on each side of the border
    ∷ between (0x00 ∷ 0x81 ∷ 0x41 ∷ 0xDB ∷ 0xD0 ∷ 0x08 ∷ 0x03 ∷ 0xB2 ∷ 0x8B ∷ []) (message (0x00 ∷ 0x81 ∷ 0x41 ∷ 0xDB ∷ 0xD0 ∷ 0x08 ∷ 0x03 ∷ []))
    -- 6: what collecting answers, and what reading answers to the last
    ∷ between (0x7D ∷ []) (refused 2 1)
    ∷ between (0x7D ∷ 0x00 ∷ []) (refused 1 2)
    ∷ between (0x07 ∷ 0x07 ∷ []) (refused 4 2)
    ∷ between (0x07 ∷ 0x07 ∷ 0x00 ∷ []) (message (0x07 ∷ []))
    ∷ read (0x07 ∷ []) (Err WrongLength)
    -- 7: the last second of a day, and the next
    ∷ read (0x00 ∷ 0x81 ∷ 0xC1 ∷ 0x80 ∷ 0x51 ∷ 0x08 ∷ 0x02 ∷ []) (heartbeat_with 86400 1 2)
    ∷ read (0x00 ∷ 0x81 ∷ 0xC1 ∷ 0x81 ∷ 0x51 ∷ 0x08 ∷ 0x02 ∷ []) (Err BadField)
    -- 8: climbs; `negsuc k` is -(k + 1)
    ∷ read (traffic_message 0x0F0 0x1FD) (traffic_with 240 (Steps (pos 509)))
    ∷ read (traffic_message 0x0F0 0xE03) (traffic_with 240 (Steps (negsuc 508)))
    ∷ read (traffic_message 0x0F0 0xFFF) (traffic_with 240 (Steps (negsuc 0)))
    ∷ read (traffic_message 0x0F0 0x1FF) (Err BadField)
    -- 9: altitudes, and their feet
    ∷ read (traffic_message 0x000 0x001) (traffic_with 0 (Steps (pos 1)))
    ∷ feet 0 (negsuc 999)
    ∷ read (traffic_message 0x028 0x001) (traffic_with 40 (Steps (pos 1)))
    ∷ feet 40 (pos 0)
    ∷ read (traffic_message 0xFFE 0x001) (traffic_with 4094 (Steps (pos 1)))
    ∷ feet 4094 (pos 101350)
    -- 10: headers of information frames, and two at byte 0
    ∷ header 0x96 0x00 300
    ∷ header 0x00 0x80 1
    ∷ header 0xD3 0x00 422
    ∷ list 0xD3 0x00 (Ok (record { count = 1; end = 424 }))
    ∷ list 0xD3 0x80 (Err PastTheEnd)
    ∷ []

abbrev pub Starred : Type 0
Starred = AllHold starred

abbrev pub examples : List Row
examples =
    -- 11: the traffic report of 001 §3.5.2
    read (traffic_message 0x0F0 0x001) (traffic_with 240 (Steps (pos 1)))
    ∷ feet 240 (pos 5000)
    -- 001 §2.2.4: the heartbeat's frame
    ∷ frame (0x00 ∷ 0x81 ∷ 0x41 ∷ 0xDB ∷ 0xD0 ∷ 0x08 ∷ 0x02 ∷ []) (0x7E ∷ 0x00 ∷ 0x81 ∷ 0x41 ∷ 0xDB ∷ 0xD0 ∷ 0x08 ∷ 0x02 ∷ 0xB3 ∷ 0x8B ∷ 0x7E ∷ [])
    ∷ shortest (0x00 ∷ 0x81 ∷ 0x41 ∷ 0xDB ∷ 0xD0 ∷ 0x08 ∷ 0x02 ∷ [])
    -- RULES 'What the check sequence finds': four flips within 17 bits, and six within 17 as a serial line sends them
    ∷ sequence (0x01 ∷ 0x10 ∷ 0x21 ∷ []) 0
    ∷ sequence (0x23 ∷ 0x14 ∷ 0x01 ∷ []) 0
    -- 001 §3.1.4: counts 4 and 567
    ∷ read (0x00 ∷ 0x81 ∷ 0x41 ∷ 0xDB ∷ 0xD0 ∷ 0x22 ∷ 0x37 ∷ []) (heartbeat_with 53467 4 567)
    -- 001 §5.2.4: five reports, of KSLE, KPDX, KEUG, KAST and KHIO
    ∷ texts textual (report_of 0x4B534C45 ∷ report_of 0x4B504458 ∷ report_of 0x4B455547 ∷ report_of 0x4B415354 ∷ report_of 0x4B48494F ∷ [])
    -- written they are 70 bytes and not 67: each holds a tab, which is written as its spaces, and no closing code
    ∷ rewritten textual (
    bytes_of 32 0x067441905011A02D3305832DB0E70C1A04D832D71CF1D60C38C30D8B5204364C (bytes_of 32 0xD806157C36C2008B3B1CB07A082082018DC34C30816482C332D4810D933604C3 (bytes_of 6 0x532D70F5E740 [])) ∷
    bytes_of 32 0x067441905011A02D0118832DB0E70C1A04D832D71CF1D60C38C30D8B5204364C (bytes_of 32 0xD806157C36C2008B3B1CB07A082082018DC34C30816482C332D4810D933604C3 (bytes_of 6 0x532D70F5E740 [])) ∷
    bytes_of 32 0x067441905011A02C5547832DB0E70C1A04D832D71CF1D60C38C30D8B5204364C (bytes_of 32 0xD806157C36C2008B3B1CB07A082082018DC34C30816482C332D4810D933604C3 (bytes_of 6 0x532D70F5E740 [])) ∷
    bytes_of 32 0x067441905011A02C14D4832DB0E70C1A04D832D71CF1D60C38C30D8B5204364C (bytes_of 32 0xD806157C36C2008B3B1CB07A082082018DC34C30816482C332D4810D933604C3 (bytes_of 6 0x532D70F5E740 [])) ∷
    bytes_of 32 0x067441905011A02C824F832DB0E70C1A04D832D71CF1D60C38C30D8B5204364C (bytes_of 32 0xD806157C36C2008B3B1CB07A082082018DC34C30816482C332D4810D933604C3 (bytes_of 6 0x532D70F5E740 [])) ∷
    [])
    ∷ []

abbrev pub Examples : Type 0
Examples = AllHold examples
