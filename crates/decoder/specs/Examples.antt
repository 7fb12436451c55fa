-- Document 01's "Proved examples", the readings that are easily got wrong, and the inputs that Ticket 1 names for edition 2.
use Rattle.std.specs.Prelude.{List, [], ◌∷◌, ◌++◌, ℕ}
use Rattle.edition.specs.declared.Framing.TheVariants.{Udp}
use Rattle.decoder.specs.Cases.{hex, packets, refused, stopped, Case, call, soils, gives, rejects, lacks, waits}
use Rattle.decoder.specs.Cases.{tcp1, vec1, cut2, vec2}

-- P3's records, and P4's
abbrev five : List ℕ
five =
    hex (0x2F000000 ∷ 0x00000002 ∷ 0x00000000 ∷ 0x00000002 ∷ 0x00000000
    ∷ 0x69000000 ∷ 0x00000002 ∷ 0x00000005 ∷ 0x00000000 ∷ 0x00000008 ∷ [])

-- P1 to P14, in their order
abbrev pub examples : List Case
examples =
    rejects Udp [] 2
    ∷ lacks Udp (hex (0x2F000000 ∷ [])) 18 4
    ∷ gives Udp (hex (0x2F610000 ∷ 0x2C690000 ∷ 0x00000005 ∷ [])) 0 five
    ∷ gives Udp (hex (0x2F610000 ∷ 0x58690000 ∷ 0x00000005 ∷ [])) 0 five
    ∷ gives Udp (hex (0x2F610000 ∷ 0x00000000 ∷ [])) 0 (hex (0x2F000000 ∷ 0x00000001 ∷ 0x00000000 ∷ 0x00000002 ∷ 0x00000000 ∷ []))
    ∷ gives Udp (hex (0x2F610000 ∷ 0x2C695B69 ∷ 0x00000000 ∷ 0x00000001 ∷ 0x00000002 ∷ [])) 0
    (hex (0x2F000000 ∷ 0x00000002 ∷ 0x00000000 ∷ 0x00000002 ∷ 0x00000000
    ∷ 0x69000000 ∷ 0x00000002 ∷ 0x00000002 ∷ 0x00000000 ∷ 0x00000010 ∷ []))
    ∷ rejects Udp (hex (0x2F610000 ∷ 0x2C5D0000 ∷ [])) 6
    ∷ rejects Udp (hex (0x2F610000 ∷ 0x2C780000 ∷ [])) 7
    ∷ rejects Udp (hex (0x2F610000 ∷ 0x2C630000 ∷ 0x0000D800 ∷ [])) 8
    ∷ rejects Udp (hex (0x2FFF0000 ∷ [])) 4
    ∷ rejects Udp (hex (0x61000000 ∷ [])) 5
    ∷ gives Udp (hex (0x2362756E ∷ 0x646C6500 ∷ 0x00000000 ∷ 0x00000001 ∷ 0x00000000 ∷ [])) 4
    (hex (0x23000000 ∷ 0x00000001 ∷ 0x00000000 ∷ 0x00000001 ∷ 0x00000000 ∷ []))
    ∷ lacks tcp1 (hex (0x00000008 ∷ 0x2F610000 ∷ [])) 18 8
    ∷ waits tcp1 (hex (0x00000009 ∷ 0x2F610000 ∷ []))
    ∷ []

-- a bundle in a bundle, the inner one with a leftover
abbrev nested : List ℕ
nested =
    hex (0x2362756E ∷ 0x646C6500 ∷ 0x00000000 ∷ 0x00000001 ∷ 0x00000014
    ∷ 0x2362756E ∷ 0x646C6500 ∷ 0x00000000 ∷ 0x00000002 ∷ 0x00000000 ∷ [])

-- an array in a message in a bundle
abbrev holding : List ℕ
holding =
    hex (0x2362756E ∷ 0x646C6500 ∷ 0x00000000 ∷ 0x00000001 ∷ 0x0000000C ∷ 0x2F610000 ∷ 0x2C5B545D ∷ 0x00000000 ∷ [])

-- inputs that are easily misread
abbrev pub misread : List Case
misread =
    -- padding counts from the call and not from the element, whose leftover byte is dropped, and is no padding
    soils Udp (hex (0x2362756E ∷ 0x646C6500 ∷ 0x00000000 ∷ 0x00000001
    ∷ 0x00000009 ∷ 0x2F610000 ∷ 0x2C000000 ∷ 0x55000000 ∷ 0x072F00AA ∷ 0x2C00BBBB ∷ [])) 0 3
    (hex (0x23000000 ∷ 0x00000003 ∷ 0x00000000 ∷ 0x00000001 ∷ 0x00000000
    ∷ 0x2F000000 ∷ 0x00000002 ∷ 0x00000014 ∷ 0x00000002 ∷ 0x00000014
    ∷ 0x2F000000 ∷ 0x00000003 ∷ 0x00000021 ∷ 0x00000001 ∷ 0x00000021 ∷ []))
    -- a length cuts nothing; it is compared with the whole input, prefix included
    ∷ gives tcp1 (hex (0x00000000 ∷ 0x2F610000 ∷ 0x00000000 ∷ [])) 0
    (hex (0x2F000000 ∷ 0x00000001 ∷ 0x00000004 ∷ 0x00000002 ∷ 0x00000004 ∷ []))
    ∷ rejects tcp1 (hex (0x00000004 ∷ [])) 2
    ∷ waits tcp1 (hex (0x00000005 ∷ []))
    ∷ lacks tcp1 [] 21 0
    -- two frames: padding afresh from each prefix, offsets from the call's first byte
    ∷ gives vec1 (hex (0x00000008 ∷ 0x2F610000 ∷ 0x00000000 ∷ 0x00000008 ∷ 0x2F620000 ∷ 0x00000000 ∷ [])) 0
    (hex (0x2F000000 ∷ 0x00000001 ∷ 0x00000004 ∷ 0x00000002 ∷ 0x00000004
    ∷ 0x2F000000 ∷ 0x00000002 ∷ 0x00000010 ∷ 0x00000002 ∷ 0x00000010 ∷ []))
    -- a frame that waits is left over; no records if it is the first; 1 to 3 trailing bytes refuse the call
    ∷ gives vec1 (hex (0x00000008 ∷ 0x2F610000 ∷ 0x00000000 ∷ 0x00000009 ∷ 0x2F620000 ∷ [])) 8
    (hex (0x2F000000 ∷ 0x00000001 ∷ 0x00000004 ∷ 0x00000002 ∷ 0x00000004 ∷ []))
    ∷ gives vec1 (hex (0x00000005 ∷ [])) 4 []
    ∷ lacks vec1 (hex (0x00000008 ∷ 0x2F610000 ∷ 0x00000000 ∷ []) ++ (0x00 ∷ 0x00 ∷ 0x00 ∷ [])) 21 12
    ∷ lacks vec1 [] 21 0
    -- the first character of the type text is skipped, whatever it is; a tag that is not ASCII is 7, after the data before it
    ∷ gives Udp (hex (0x2F610000 ∷ 0xC3A90000 ∷ [])) 0 (hex (0x2F000000 ∷ 0x00000001 ∷ 0x00000000 ∷ 0x00000002 ∷ 0x00000000 ∷ []))
    ∷ gives Udp (hex (0x2F610000 ∷ 0xC3A96900 ∷ 0x00000005 ∷ [])) 0 five
    ∷ rejects Udp (hex (0x2F610000 ∷ 0x2CC3A900 ∷ [])) 7
    ∷ lacks Udp (hex (0x2F610000 ∷ 0x2C69C3A9 ∷ 0x00000000 ∷ [])) 19 12
    -- what is short comes before 4; an empty first text is 5; S is no tag
    ∷ lacks Udp (0x2F ∷ 0xFF ∷ 0x00 ∷ []) 20 3
    ∷ rejects Udp (hex (0x00000000 ∷ [])) 5
    ∷ rejects Udp (hex (0x2F610000 ∷ 0x2C530000 ∷ [])) 7
    -- an unclosed array: what stands outside it is lost, its data consumed
    ∷ call Udp (hex (0x2F610000 ∷ 0x2C695B00 ∷ 0x00000005 ∷ [])) 20 64 (packets 1 0 0)
    (hex (0x2F000000 ∷ 0x00000001 ∷ 0x00000000 ∷ 0x00000002 ∷ 0x00000000 ∷ []))
    ∷ gives Udp (hex (0x2F610000 ∷ 0x2C5B5B54 ∷ 0x5D000000 ∷ []) ++ (0x00 ∷ [])) 1
    (hex (0x2F000000 ∷ 0x00000003 ∷ 0x00000000 ∷ 0x00000002 ∷ 0x00000000
    ∷ 0x5B000000 ∷ 0x00000003 ∷ 0x00000000 ∷ 0x00000000 ∷ 0x0000000C
    ∷ 0x54000000 ∷ 0x00000003 ∷ 0x00000000 ∷ 0x00000000 ∷ 0x0000000C ∷ []))
    -- an empty blob at the very end; a size that wraps nothing
    ∷ gives Udp (hex (0x2F610000 ∷ 0x2C620000 ∷ 0x00000000 ∷ [])) 0
    (hex (0x2F000000 ∷ 0x00000002 ∷ 0x00000000 ∷ 0x00000002 ∷ 0x00000000
    ∷ 0x62000000 ∷ 0x00000002 ∷ 0x0000000C ∷ 0x00000000 ∷ 0x00000008 ∷ []))
    ∷ lacks Udp (hex (0x2F610000 ∷ 0x2C620000 ∷ 0xFFFFFFFF ∷ [])) 19 8
    -- padding is short at its own first place, a blob's too; the first text is the address until it is known to be "#bundle"; a list
    -- adds the offset of its frame once
    ∷ lacks Udp (0x2F ∷ 0x00 ∷ []) 20 2
    ∷ lacks Udp (hex (0x2F610000 ∷ 0x2C620000 ∷ 0x00000001 ∷ []) ++ (0x61 ∷ [])) 20 13
    ∷ lacks Udp (0x23 ∷ []) 17 0
    ∷ lacks Udp (hex (0x2362756E ∷ 0x646C6500 ∷ 0x00000000 ∷ [])) 21 8
    ∷ lacks vec1 (hex (0x0000000C ∷ 0x2F610000 ∷ 0x2C690000 ∷ 0x00000007 ∷ 0x00000004 ∷ 0x2F616263 ∷ [])) 17 20
    -- an inner leftover is dropped; 13, then 9, then 10, which 39 bytes give for two records
    ∷ gives Udp nested 0
    (hex (0x23000000 ∷ 0x00000002 ∷ 0x00000000 ∷ 0x00000001 ∷ 0x00000000
    ∷ 0x23000000 ∷ 0x00000002 ∷ 0x00000000 ∷ 0x00000002 ∷ 0x00000014 ∷ []))
    ∷ call Udp nested 160 65 (refused 13 0) []
    ∷ call Udp nested 39 1 (refused 9 0) []
    ∷ call Udp nested 39 2 (refused 10 0) []
    -- depth counts the arrays that are kept, with the bundles around them: P6 has none, '[[T]' one, and the last one stands in a bundle
    ∷ call Udp (hex (0x2F610000 ∷ 0x2C695B69 ∷ 0x00000000 ∷ 0x00000001 ∷ 0x00000002 ∷ [])) 160 0 (packets 2 0 0)
    (hex (0x2F000000 ∷ 0x00000002 ∷ 0x00000000 ∷ 0x00000002 ∷ 0x00000000
    ∷ 0x69000000 ∷ 0x00000002 ∷ 0x00000002 ∷ 0x00000000 ∷ 0x00000010 ∷ []))
    ∷ call Udp (hex (0x2F610000 ∷ 0x2C5B5B54 ∷ 0x5D000000 ∷ [])) 160 0 (refused 9 0) []
    ∷ call Udp (hex (0x2F610000 ∷ 0x2C5B5B54 ∷ 0x5D000000 ∷ [])) 160 1 (packets 3 0 0)
    (hex (0x2F000000 ∷ 0x00000003 ∷ 0x00000000 ∷ 0x00000002 ∷ 0x00000000
    ∷ 0x5B000000 ∷ 0x00000003 ∷ 0x00000000 ∷ 0x00000000 ∷ 0x0000000C
    ∷ 0x54000000 ∷ 0x00000003 ∷ 0x00000000 ∷ 0x00000000 ∷ 0x0000000C ∷ []))
    ∷ call Udp holding 160 1 (refused 9 0) []
    ∷ call Udp holding 160 2 (packets 4 0 0)
    (hex (0x23000000 ∷ 0x00000004 ∷ 0x00000000 ∷ 0x00000001 ∷ 0x00000000
    ∷ 0x2F000000 ∷ 0x00000004 ∷ 0x00000014 ∷ 0x00000002 ∷ 0x00000014
    ∷ 0x5B000000 ∷ 0x00000004 ∷ 0x00000000 ∷ 0x00000000 ∷ 0x00000020
    ∷ 0x54000000 ∷ 0x00000004 ∷ 0x00000000 ∷ 0x00000000 ∷ 0x00000020 ∷ []))
    -- dirty padding: of an address, of a type text, of a text and of a blob, which has 3 bytes of it; two of three may be zero
    ∷ soils Udp (hex (0x2F6100AA ∷ 0x2C736254 ∷ 0x00AABBCC ∷ 0x610000AA ∷ 0x00000001 ∷ 0x61AABBCC ∷ [])) 0 8
    (hex (0x2F000000 ∷ 0x00000004 ∷ 0x00000000 ∷ 0x00000002 ∷ 0x00000000
    ∷ 0x73000000 ∷ 0x00000002 ∷ 0x0000000C ∷ 0x00000001 ∷ 0x0000000C
    ∷ 0x62000000 ∷ 0x00000003 ∷ 0x00000014 ∷ 0x00000001 ∷ 0x00000010
    ∷ 0x54000000 ∷ 0x00000004 ∷ 0x00000000 ∷ 0x00000000 ∷ 0x00000018 ∷ []))
    -- a text that an unclosed array loses adds none; nor does an element that fails, here for its tag; nor what is left over
    ∷ gives Udp (hex (0x2F610000 ∷ 0x2C735B00 ∷ 0x6100AABB ∷ [])) 0
    (hex (0x2F000000 ∷ 0x00000001 ∷ 0x00000000 ∷ 0x00000002 ∷ 0x00000000 ∷ []))
    ∷ gives Udp (hex (0x2362756E ∷ 0x646C6500 ∷ 0x00000000 ∷ 0x00000001 ∷ 0x00000008 ∷ 0x2F6100AA ∷ 0x2C7800BB ∷ [])) 12
    (hex (0x23000000 ∷ 0x00000001 ∷ 0x00000000 ∷ 0x00000001 ∷ 0x00000000 ∷ []))
    -- "#bundle" has padding where an element stands at an odd place
    ∷ soils Udp (hex (0x2362756E ∷ 0x646C6500 ∷ 0x00000000 ∷ 0x00000001 ∷ 0x00000009 ∷ 0x2F610000 ∷ 0x2C000000 ∷ 0x55000000
    ∷ 0x13236275 ∷ 0x6E646C65 ∷ 0x00AABBCC ∷ 0x00000000 ∷ 0x00000002 ∷ [])) 0 3
    (hex (0x23000000 ∷ 0x00000003 ∷ 0x00000000 ∷ 0x00000001 ∷ 0x00000000
    ∷ 0x2F000000 ∷ 0x00000002 ∷ 0x00000014 ∷ 0x00000002 ∷ 0x00000014
    ∷ 0x23000000 ∷ 0x00000003 ∷ 0x00000000 ∷ 0x00000002 ∷ 0x00000021 ∷ []))
    -- of a list the sum; a frame that waits adds none
    ∷ soils vec1 (hex (0x00000008 ∷ 0x2F6100AA ∷ 0x00AABBCC ∷ 0x00000008 ∷ 0x2F620000 ∷ 0x000000AA ∷ 0x00000009 ∷ 0x2F6300AA ∷ [])) 8 5
    (hex (0x2F000000 ∷ 0x00000001 ∷ 0x00000004 ∷ 0x00000002 ∷ 0x00000004
    ∷ 0x2F000000 ∷ 0x00000002 ∷ 0x00000010 ∷ 0x00000002 ∷ 0x00000010 ∷ []))
    -- a late frame's 2 comes before an early one's 9
    ∷ call vec1 (hex (0x00000000 ∷ []) ++ (nested ++ hex (0x00000000 ∷ []))) 160 1 (refused 2 0) []
    ∷ []

-- "/a" with no arguments, in a frame; and a bundle with nothing in it
abbrev message_frame : List ℕ
message_frame = hex (0x00000008 ∷ 0x2F610000 ∷ 0x2C000000 ∷ [])

abbrev bundle_frame : List ℕ
bundle_frame = hex (0x00000010 ∷ 0x2362756E ∷ 0x646C6500 ∷ 0x00000000 ∷ 0x00000001 ∷ [])

-- the record of a message "/a" at this offset, the first of one record
abbrev slash_a : ℕ → List ℕ
slash_a at = hex (0x2F000000 ∷ 0x00000001 ∷ at ∷ 0x00000002 ∷ at ∷ [])

-- edition 2: what Ticket 1 and its readings name
abbrev pub standard : List Case
standard =
    -- fewer than 4 bytes and an unfinished frame wait; an empty list has no packets and nothing left
    waits cut2 []
    ∷ waits cut2 (0x00 ∷ 0x00 ∷ 0x00 ∷ [])
    ∷ waits cut2 (hex (0x00000008 ∷ 0x2F610000 ∷ []))
    ∷ gives vec2 [] 0 []
    ∷ gives vec2 (0x00 ∷ 0x00 ∷ 0x00 ∷ []) 3 []
    -- 1 and 16 come before Waiting; 15 of a packet, and of a bundle that an element ended; 2 to 8 before 15, and 15 before 9
    ∷ rejects cut2 (hex (0x0000FFFC ∷ [])) 1
    ∷ rejects cut2 (hex (0x00000006 ∷ [])) 16
    ∷ rejects cut2 (hex (0x0000000C ∷ 0x2F610000 ∷ 0x2C000000 ∷ 0x00000000 ∷ [])) 15
    ∷ rejects cut2 (hex (0x00000014 ∷ 0x2362756E ∷ 0x646C6500 ∷ 0x00000000 ∷ 0x00000001 ∷ 0x00000000 ∷ [])) 15
    ∷ rejects cut2 (hex (0x0000000C ∷ 0x2FFF0000 ∷ 0x2C000000 ∷ 0x00000000 ∷ [])) 4
    ∷ call cut2 (hex (0x00000014 ∷ 0x2362756E ∷ 0x646C6500 ∷ 0x00000000 ∷ 0x00000001 ∷ 0x00000000 ∷ [])) 160 0 (refused 15 0) []
    -- the length cuts the packet: what follows the frame is left over, and a packet is short at its frame's end
    ∷ gives cut2 (message_frame ++ message_frame) 12 (slash_a 4)
    ∷ lacks cut2 (hex (0x00000004 ∷ 0x2F610000 ∷ 0x2C000000 ∷ [])) 18 8
    -- a bundle does not swallow the next frame
    ∷ gives vec2 (bundle_frame ++ message_frame) 0
    (hex (0x23000000 ∷ 0x00000001 ∷ 0x00000000 ∷ 0x00000001 ∷ 0x00000004
    ∷ 0x2F000000 ∷ 0x00000002 ∷ 0x00000018 ∷ 0x00000002 ∷ 0x00000018 ∷ []))
    -- a list stops at a refused frame, also the first, and says why and where; what is left begins with that frame
    ∷ call vec2 (hex (0x00000000 ∷ [])) 160 64 (stopped 0 4 0 2 0 0) []
    ∷ call vec2 bundle_frame 160 0 (stopped 0 20 0 9 0 0) []
    ∷ call vec2 (message_frame ++ hex (0x0000FFFC ∷ [])) 160 64 (stopped 1 4 0 1 0 12) (slash_a 4)
    ∷ call vec2 (hex (0x0000000C ∷ 0x2F610000 ∷ 0x2C690000 ∷ 0x00000007 ∷ 0x00000004 ∷ 0x2F616263 ∷ [])) 160 64 (stopped 2 8 0 17 20 16)
    (hex (0x2F000000 ∷ 0x00000002 ∷ 0x00000004 ∷ 0x00000002 ∷ 0x00000004
    ∷ 0x69000000 ∷ 0x00000002 ∷ 0x00000007 ∷ 0x00000000 ∷ 0x0000000C ∷ []))
    -- a refused frame adds no dirty padding
    ∷ call vec2 (hex (0x00000008 ∷ 0x2F610001 ∷ 0x2C000000 ∷ 0x00000000 ∷ [])) 160 64 (stopped 1 4 1 2 0 12) (slash_a 4)
    -- 10 refuses the whole call, and the first frame at which something happens decides; in edition 1 the second of these is 9
    ∷ call vec2 (message_frame ++ bundle_frame) 20 0 (stopped 1 20 0 9 0 12) (slash_a 4)
    ∷ call vec2 (message_frame ++ bundle_frame) 20 1 (refused 10 0) []
    ∷ call vec2 (hex (0x00000008 ∷ 0x2F610000 ∷ 0x2C540000 ∷ 0x0000000C ∷ 0x2F610000 ∷ 0x2C5B545D ∷ 0x00000000 ∷ [])) 20 0 (refused 10 0) []
    ∷ call vec1 (hex (0x00000008 ∷ 0x2F610000 ∷ 0x2C540000 ∷ 0x0000000C ∷ 0x2F610000 ∷ 0x2C5B545D ∷ 0x00000000 ∷ [])) 20 0 (refused 9 0) []
    ∷ call vec2 message_frame 160 65 (refused 13 0) []
    ∷ []
