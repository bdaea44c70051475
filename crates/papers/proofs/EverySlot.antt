-- A header with every rule of 004, derived by them, with the rows and skip numbers that the tree gives; as `EveryParameter` has it for 002.
use Rattle.std.specs.Prelude.{ℕ, List, [], ◌∷◌, ◌++◌, ◌≡◌, refl}
use Rattle.std.proofs.Common.{leb→le, ltb→lt}
use Rattle.meaning.specs.Told.{B, told_by, tolerant}
use Rattle.meaning.specs.Bytes.{text_byte, text_ok, turn, number_ok, last_day, passes, date_ok, absolute, too_wide, one_byte, two_bytes, four_bytes}
use Rattle.meaning.specs.Cases.{hex}
use Rattle.meaning.specs.Kinds.{extension_opens, base_opens, standard_representation, own_representation, date_absolute, received_by, received_from, received_id, received_via, to_opens, from_opens, receiver_opens, agent_name, addresses_open, address, resolvers_open, extra_key, any_text, any_bytes, comments, payload_length, payload_encoding, encrypted_opens, encrypted_item, own_key, own_value, behaviour_opens}
use Rattle.papers.specs.Notation.{Trees, end, tree, laid, ◌then◌, first, other, absent, present, many, up_to, byte, these, met, shows, holds, opens, itself, coded}
use Rattle.papers.specs.Values.{short}
use Rattle.papers.specs.Papers.{of, Header}
use Rattle.papers.proofs.Texts.{textual, block_in, number_in}
use Rattle.papers.proofs.Dates.{plain_coded, lettered_coded}
use Rattle.papers.specs.ExampleTexts.{may_date}

abbrev whole_slots_extension : List ℕ
whole_slots_extension =
    hex 0x1_fd_00_22_62_79_00_21_31_11_16_19_15_37_62_59_20_5a_02_66_72_6f_6d_00_03_69_64_00_04_76_69_61_00 ++ (
    hex 0x1_01_01)

abbrev whole_slots_base : List ℕ
whole_slots_base =
    hex 0x1_fe_00_a7_00_6f_77_6e_00_20_31_11_16_19_15_37_62_59_20_00_6b_65_79_00_76_61_6c_75_65_00_02_02_78 ++ (
    hex 0x1_00_02_75_00_77_00_01_03_02_79_00_01_01_04_6b_00_14_76_0a_00_04_6c_00_16_01_aa_01_02_7a_00_01_01 ++ (
    hex 0x1_03_02_78_00_02_75_00_77_00_01_03_02_79_00_01_01_04_6b_00_14_76_0a_00_04_6c_00_16_01_aa_01_04_10 ++ (
    hex 0x1_04_11_04_12_04_00_72_00_05_61_09_62_0d_0a_63_00_06_23_00_06_80_07_65_00_08_70_00_71_00_01_09_01 ++ (
    hex 0x1_0a_62_79_00_20_31_11_16_19_15_37_62_59_20_01_0b_14_61_6e_79_00_0b_16_02_00_ff_0b_17_00_01_bb_0b ++ (
    hex 0x1_19_00_00_00_01_cc_01)))))

abbrev whole_slots_trees : Trees
whole_slots_trees =
    tree extension_opens 0 0 [] (
    tree received_by 0 3 (hex 0x1_62_79) (
    tree date_absolute 1 7 (hex 0x1_31_11_16_19_15_37_62_59_20_5a) end (
    tree received_from 1 18 (hex 0x1_66_72_6f_6d) end (
    tree received_id 1 24 (hex 0x1_69_64) end (
    tree received_via 1 28 (hex 0x1_76_69_61) end end)))) end) (
    tree base_opens 0 34 [] (
    tree own_representation 0 38 (hex 0x1_6f_77_6e) end (
    tree date_absolute 0 43 may_date end (
    tree own_key 0 53 (hex 0x1_6b_65_79) (tree own_value 0 57 (hex 0x1_76_61_6c_75_65) end end) (
    tree to_opens 0 63 [] (
    tree agent_name 1 65 (0x78 ∷ []) (
    tree addresses_open 1 67 [] (
    tree address 1 68 (0x75 ∷ []) end (
    tree address 1 70 (0x77 ∷ []) end end)) (
    tree resolvers_open 1 73 [] (tree agent_name 2 75 (0x79 ∷ []) end end) (
    tree extra_key 1 80 (0x6b ∷ []) (tree any_text 1 83 (hex 0x1_76_0a) end end) (
    tree extra_key 1 87 (0x6c ∷ []) (tree any_bytes 1 91 (0xaa ∷ []) end end) end)))) (
    tree agent_name 1 94 (0x7a ∷ []) end end)) (
    tree from_opens 0 98 [] (
    tree agent_name 1 100 (0x78 ∷ []) (
    tree addresses_open 1 102 [] (
    tree address 1 103 (0x75 ∷ []) end (
    tree address 1 105 (0x77 ∷ []) end end)) (
    tree resolvers_open 1 108 [] (tree agent_name 2 110 (0x79 ∷ []) end end) (
    tree extra_key 1 115 (0x6b ∷ []) (tree any_text 1 118 (hex 0x1_76_0a) end end) (
    tree extra_key 1 122 (0x6c ∷ []) (tree any_bytes 1 126 (0xaa ∷ []) end end) end)))) end) (
    tree standard_representation 0 129 (0x10 ∷ []) end (
    tree standard_representation 0 131 (0x11 ∷ []) end (
    tree standard_representation 0 133 (0x12 ∷ []) end (
    tree own_representation 0 136 (0x72 ∷ []) end (
    tree comments 0 139 (hex 0x1_61_09_62_0d_0a_63) end (
    tree payload_length 0 147 (hex 0x1_23_00) end (
    tree payload_length 0 150 (0x80 ∷ []) end (
    tree payload_encoding 0 152 (0x65 ∷ []) end (
    tree encrypted_opens 0 154 [] (
    tree encrypted_item 0 155 (0x70 ∷ []) end (
    tree encrypted_item 0 157 (0x71 ∷ []) end end)) (
    tree receiver_opens 0 160 [] end (
    tree received_by 0 163 (hex 0x1_62_79) (tree date_absolute 1 167 may_date end end) (
    tree behaviour_opens 0 177 [] (tree any_text 0 179 (hex 0x1_61_6e_79) end end) (
    tree behaviour_opens 0 183 [] (tree any_bytes 0 186 (hex 0x1_00_ff) end end) (
    tree behaviour_opens 0 188 [] (tree any_bytes 0 192 (0xbb ∷ []) end end) (
    tree behaviour_opens 0 193 [] (tree any_bytes 0 199 (0xcc ∷ []) end end) end)))))))))))))))))))) end)

pub whole_slots_is : Header (told_by tolerant B) 0 (whole_slots_extension ++ whole_slots_base) whole_slots_trees
unfolding text_ok text_byte date_ok passes last_day number_ok turn too_wide
whole_slots_is =
    (up_to.more (of {bytes = whole_slots_extension} (leb→le 34 1048576 tt) ((byte.it then first (these (short (ltb→lt 34 65536 tt))) then (holds (textual {v = (hex 0x1_62_79)} tt) ((other (first (met refl (shows (coded (lettered_coded absolute (hex 0x1_31_11_16_19_15_37_62_59_20_5a) tt)))))) then present (shows (coded (textual {v = (hex 0x1_66_72_6f_6d)} tt))) then present (shows (coded (textual {v = (hex 0x1_69_64)} tt))) then present (shows (coded (textual {v = (hex 0x1_76_69_61)} tt))) then many.none then byte.it))) then
    many.none then byte.it)) (up_to.none)) then
    of {bytes = whole_slots_base} (leb→le 167 1048576 tt) ((byte.it then first (these (short (ltb→lt 167 65536 tt))) then (first (shows (coded (textual {v = (hex 0x1_6f_77_6e)} tt)))) then (first (shows (coded (plain_coded absolute may_date tt))))) then
    (many.more (other (holds (coded (textual {v = (hex 0x1_6b_65_79)} tt)) (shows (textual {v = (hex 0x1_76_61_6c_75_65)} tt))))
    (many.more (first (first (holds opens.it ((many.more (holds (coded (textual {v = (0x78 ∷ [])} tt)) (present (holds opens.it ((many.more (shows (textual {v = (0x75 ∷ [])} tt)) (many.more (shows (textual {v = (0x77 ∷ [])} tt)) many.none)) then byte.it)) then present (holds opens.it ((many.more (holds (coded (textual {v = (0x79 ∷ [])} tt)) (absent then absent then many.none then byte.it)) many.none) then byte.it)) then (many.more (first (met refl (holds (coded (textual {v = (0x6b ∷ [])} tt)) (first (shows (coded (textual {v = (hex 0x1_76_0a)} tt))))))) (many.more (first (met refl (holds (coded (textual {v = (0x6c ∷ [])} tt)) (other (first (shows (coded (block_in (told_by tolerant B) one_byte (0xaa ∷ []) tt)))))))) many.none)) then byte.it)) (many.more (holds (coded (textual {v = (0x7a ∷ [])} tt)) (absent then absent then many.none then byte.it)) many.none)) then byte.it))))
    (many.more (first (other (first (holds opens.it (holds (coded (textual {v = (0x78 ∷ [])} tt)) (present (holds opens.it ((many.more (shows (textual {v = (0x75 ∷ [])} tt)) (many.more (shows (textual {v = (0x77 ∷ [])} tt)) many.none)) then byte.it)) then present (holds opens.it ((many.more (holds (coded (textual {v = (0x79 ∷ [])} tt)) (absent then absent then many.none then byte.it)) many.none) then byte.it)) then (many.more (first (met refl (holds (coded (textual {v = (0x6b ∷ [])} tt)) (first (shows (coded (textual {v = (hex 0x1_76_0a)} tt))))))) (many.more (first (met refl (holds (coded (textual {v = (0x6c ∷ [])} tt)) (other (first (shows (coded (block_in (told_by tolerant B) one_byte (0xaa ∷ []) tt)))))))) many.none)) then byte.it))))))
    (many.more (first (other (other (first (byte.it then (other (first (shows itself.it))))))))
    (many.more (first (other (other (first (byte.it then (other (other (first (shows itself.it)))))))))
    (many.more (first (other (other (first (byte.it then (other (other (other (shows itself.it)))))))))
    (many.more (first (other (other (first (byte.it then (first (shows (coded (textual {v = (0x72 ∷ [])} tt)))))))))
    (many.more (first (other (other (other (first (shows (coded (textual {v = (hex 0x1_61_09_62_0d_0a_63)} tt))))))))
    (many.more (first (other (other (other (other (first (shows (coded (number_in (hex 0x1_23_00) tt)))))))))
    (many.more (first (other (other (other (other (first (shows (coded (number_in (0x80 ∷ []) tt)))))))))
    (many.more (first (other (other (other (other (other (first (shows (coded (textual {v = (0x65 ∷ [])} tt))))))))))
    (many.more (first (other (other (other (other (other (other (first (met refl (holds opens.it ((many.more (shows (textual {v = (0x70 ∷ [])} tt)) (many.more (shows (textual {v = (0x71 ∷ [])} tt)) many.none)) then byte.it)))))))))))
    (many.more (first (other (other (other (other (other (other (other (first (holds opens.it (many.none then byte.it)))))))))))
    (many.more (first (other (other (other (other (other (other (other (other (first (byte.it then (holds (textual {v = (hex 0x1_62_79)} tt) ((first (shows (coded (plain_coded absolute may_date tt)))) then absent then absent then absent then many.none then byte.it)))))))))))))
    (many.more (first (other (other (other (other (other (other (other (other (other (holds opens.it (first (shows (coded (textual {v = (hex 0x1_61_6e_79)} tt)))))))))))))))
    (many.more (first (other (other (other (other (other (other (other (other (other (holds opens.it (other (first (shows (coded (block_in (told_by tolerant B) one_byte (hex 0x1_00_ff) tt))))))))))))))))
    (many.more (first (other (other (other (other (other (other (other (other (other (holds opens.it (other (other (first (shows (coded (block_in (told_by tolerant B) two_bytes (0xbb ∷ []) tt)))))))))))))))))
    (many.more (first (other (other (other (other (other (other (other (other (other (holds opens.it (other (other (other (shows (coded (block_in (told_by tolerant B) four_bytes (0xcc ∷ []) tt)))))))))))))))))
    many.none)))))))))))))))))) then byte.it)

-- its rows: kind, level, start, length, skip number
pub whole_slots_laid : laid 0 whole_slots_trees
    ≡ (1 ∷ 0 ∷ 0 ∷ 0 ∷ 6 ∷ []) ++ (
    (8 ∷ 0 ∷ 3 ∷ 2 ∷ 6 ∷ []) ++ (
    (5 ∷ 1 ∷ 7 ∷ 10 ∷ 3 ∷ []) ++ (
    (9 ∷ 1 ∷ 18 ∷ 4 ∷ 4 ∷ []) ++ (
    (10 ∷ 1 ∷ 24 ∷ 2 ∷ 5 ∷ []) ++ (
    (11 ∷ 1 ∷ 28 ∷ 3 ∷ 6 ∷ []) ++ (
    (2 ∷ 0 ∷ 34 ∷ 0 ∷ 56 ∷ []) ++ (
    (4 ∷ 0 ∷ 38 ∷ 3 ∷ 8 ∷ []) ++ (
    (5 ∷ 0 ∷ 43 ∷ 9 ∷ 9 ∷ []) ++ (
    (27 ∷ 0 ∷ 53 ∷ 3 ∷ 11 ∷ []) ++ (
    (28 ∷ 0 ∷ 57 ∷ 5 ∷ 11 ∷ []) ++ (
    (12 ∷ 0 ∷ 63 ∷ 0 ∷ 23 ∷ []) ++ (
    (15 ∷ 1 ∷ 65 ∷ 1 ∷ 22 ∷ []) ++ (
    (16 ∷ 1 ∷ 67 ∷ 0 ∷ 16 ∷ []) ++ (
    (17 ∷ 1 ∷ 68 ∷ 1 ∷ 15 ∷ []) ++ (
    (17 ∷ 1 ∷ 70 ∷ 1 ∷ 16 ∷ []) ++ (
    (18 ∷ 1 ∷ 73 ∷ 0 ∷ 18 ∷ []) ++ (
    (15 ∷ 2 ∷ 75 ∷ 1 ∷ 18 ∷ []) ++ (
    (19 ∷ 1 ∷ 80 ∷ 1 ∷ 20 ∷ []) ++ (
    (20 ∷ 1 ∷ 83 ∷ 2 ∷ 20 ∷ []) ++ (
    (19 ∷ 1 ∷ 87 ∷ 1 ∷ 22 ∷ []) ++ (
    (21 ∷ 1 ∷ 91 ∷ 1 ∷ 22 ∷ []) ++ (
    (15 ∷ 1 ∷ 94 ∷ 1 ∷ 23 ∷ []) ++ (
    (13 ∷ 0 ∷ 98 ∷ 0 ∷ 34 ∷ []) ++ (
    (15 ∷ 1 ∷ 100 ∷ 1 ∷ 34 ∷ []) ++ (
    (16 ∷ 1 ∷ 102 ∷ 0 ∷ 28 ∷ []) ++ (
    (17 ∷ 1 ∷ 103 ∷ 1 ∷ 27 ∷ []) ++ (
    (17 ∷ 1 ∷ 105 ∷ 1 ∷ 28 ∷ []) ++ (
    (18 ∷ 1 ∷ 108 ∷ 0 ∷ 30 ∷ []) ++ (
    (15 ∷ 2 ∷ 110 ∷ 1 ∷ 30 ∷ []) ++ (
    (19 ∷ 1 ∷ 115 ∷ 1 ∷ 32 ∷ []) ++ (
    (20 ∷ 1 ∷ 118 ∷ 2 ∷ 32 ∷ []) ++ (
    (19 ∷ 1 ∷ 122 ∷ 1 ∷ 34 ∷ []) ++ (
    (21 ∷ 1 ∷ 126 ∷ 1 ∷ 34 ∷ []) ++ (
    (3 ∷ 0 ∷ 129 ∷ 1 ∷ 35 ∷ []) ++ (
    (3 ∷ 0 ∷ 131 ∷ 1 ∷ 36 ∷ []) ++ (
    (3 ∷ 0 ∷ 133 ∷ 1 ∷ 37 ∷ []) ++ (
    (4 ∷ 0 ∷ 136 ∷ 1 ∷ 38 ∷ []) ++ (
    (22 ∷ 0 ∷ 139 ∷ 6 ∷ 39 ∷ []) ++ (
    (23 ∷ 0 ∷ 147 ∷ 2 ∷ 40 ∷ []) ++ (
    (23 ∷ 0 ∷ 150 ∷ 1 ∷ 41 ∷ []) ++ (
    (24 ∷ 0 ∷ 152 ∷ 1 ∷ 42 ∷ []) ++ (
    (25 ∷ 0 ∷ 154 ∷ 0 ∷ 45 ∷ []) ++ (
    (26 ∷ 0 ∷ 155 ∷ 1 ∷ 44 ∷ []) ++ (
    (26 ∷ 0 ∷ 157 ∷ 1 ∷ 45 ∷ []) ++ (
    (14 ∷ 0 ∷ 160 ∷ 0 ∷ 46 ∷ []) ++ (
    (8 ∷ 0 ∷ 163 ∷ 2 ∷ 48 ∷ []) ++ (
    (5 ∷ 1 ∷ 167 ∷ 9 ∷ 48 ∷ []) ++ (
    (29 ∷ 0 ∷ 177 ∷ 0 ∷ 50 ∷ []) ++ (
    (20 ∷ 0 ∷ 179 ∷ 3 ∷ 50 ∷ []) ++ (
    (29 ∷ 0 ∷ 183 ∷ 0 ∷ 52 ∷ []) ++ (
    (21 ∷ 0 ∷ 186 ∷ 2 ∷ 52 ∷ []) ++ (
    (29 ∷ 0 ∷ 188 ∷ 0 ∷ 54 ∷ []) ++ (
    (21 ∷ 0 ∷ 192 ∷ 1 ∷ 54 ∷ []) ++ (
    (29 ∷ 0 ∷ 193 ∷ 0 ∷ 56 ∷ []) ++ (
    (21 ∷ 0 ∷ 199 ∷ 1 ∷ 56 ∷ []))))))))))))))))))))))))))))))))))))))))))))))))))))))))
whole_slots_laid = refl
