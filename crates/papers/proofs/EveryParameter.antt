-- A header with every rule of 002, derived by them, with the rows and skip numbers that the tree gives. The reading is tolerant, so that a block of one byte may
-- stand behind 17 and 19. A JumboEnvelope takes 65,540 bytes: `Jumbo` has it, for every length.
use Rattle.std.specs.Prelude.{ℕ, List, [], ◌∷◌, ◌++◌, ◌≡◌, refl}
use Rattle.std.proofs.Common.{leb→le, ltb→lt}
use Rattle.meaning.specs.Told.{D, told_by, tolerant}
use Rattle.meaning.specs.Bytes.{text_byte, text_ok, turn, number_ok, last_day, passes, date_ok, absolute, relative, too_wide, one_byte, two_bytes, four_bytes}
use Rattle.meaning.specs.Cases.{hex}
use Rattle.meaning.specs.Kinds.{extension_opens, base_opens, standard_representation, own_representation, date_absolute, date_forward, date_backward, received_by, received_from, received_id, received_via, to_opens, from_opens, receiver_opens, agent_name, addresses_open, address, resolvers_open, extra_key, any_text, any_bytes, comments, payload_length, payload_encoding, own_key, own_value, behaviour_opens}
use Rattle.papers.specs.Notation.{Trees, end, tree, laid, ◌then◌, first, other, absent, present, many, up_to, byte, these, met, shows, holds, opens, itself, coded}
use Rattle.papers.specs.Values.{short}
use Rattle.papers.specs.Papers.{of, Header}
use Rattle.papers.proofs.Texts.{textual, block_in, number_in}
use Rattle.papers.proofs.Dates.{plain_coded, lettered_coded}
use Rattle.papers.specs.ExampleTexts.{may_date}

abbrev whole_extension : List ℕ
whole_extension =
    hex 0x1_fd_00_2f_62_79_00_24_31_11_16_19_15_37_62_59_20_5a_02_66_72_6f_6d_00_03_69_64_00_04_76_69_61_00 ++ (
    hex 0x1_05_6b_00_14_76_0a_00_05_6c_00_16_01_aa_01_01)

abbrev whole_base : List ℕ
whole_base =
    hex 0x1_fe_00_df_00_6f_77_6e_00_20_31_11_16_19_15_37_62_59_20_00_6b_65_79_00_76_61_6c_75_65_00_02_02_78 ++ (
    hex 0x1_00_02_75_00_77_00_01_03_02_79_00_01_01_05_6b_00_14_76_0a_00_05_6c_00_16_01_aa_01_02_7a_00_01_01 ++ (
    hex 0x1_03_02_78_00_02_75_00_77_00_01_03_02_79_00_01_01_05_6b_00_14_76_0a_00_05_6c_00_16_01_aa_01_04_10 ++ (
    hex 0x1_04_11_04_12_04_00_72_00_05_61_09_62_0d_0a_63_00_06_23_00_06_80_07_65_00_09_01_0a_62_79_00_20_31 ++ (
    hex 0x1_11_16_19_15_37_62_59_20_01_0a_00_21_11_11_11_11_11_21_11_11_10_01_0a_00_22_11_11_11_11_11_21_11 ++ (
    hex 0x1_11_10_01_0a_00_25_11_11_11_11_11_21_11_11_10_61_03_69_64_00_01_0a_00_26_11_11_11_11_11_21_11_11 ++ (
    hex 0x1_10_61_03_69_64_00_01_0b_14_61_6e_79_00_0b_16_02_00_ff_0b_17_00_01_bb_0b_19_00_00_00_01_cc_01))))))

abbrev whole_trees : Trees
whole_trees =
    tree extension_opens 0 0 [] (
    tree received_by 0 3 (hex 0x1_62_79) (
    tree date_absolute 1 7 (hex 0x1_31_11_16_19_15_37_62_59_20_5a) end (
    tree received_from 1 18 (hex 0x1_66_72_6f_6d) end (
    tree received_id 1 24 (hex 0x1_69_64) end (
    tree received_via 1 28 (hex 0x1_76_69_61) end (
    tree extra_key 1 33 (0x6b ∷ []) (tree any_text 1 36 (hex 0x1_76_0a) end end) (
    tree extra_key 1 40 (0x6c ∷ []) (tree any_bytes 1 44 (0xaa ∷ []) end end) end)))))) end) (
    tree base_opens 0 47 [] (
    tree own_representation 0 51 (hex 0x1_6f_77_6e) end (
    tree date_absolute 0 56 may_date end (
    tree own_key 0 66 (hex 0x1_6b_65_79) (tree own_value 0 70 (hex 0x1_76_61_6c_75_65) end end) (
    tree to_opens 0 76 [] (
    tree agent_name 1 78 (0x78 ∷ []) (
    tree addresses_open 1 80 [] (
    tree address 1 81 (0x75 ∷ []) end (
    tree address 1 83 (0x77 ∷ []) end end)) (
    tree resolvers_open 1 86 [] (tree agent_name 2 88 (0x79 ∷ []) end end) (
    tree extra_key 1 93 (0x6b ∷ []) (tree any_text 1 96 (hex 0x1_76_0a) end end) (
    tree extra_key 1 100 (0x6c ∷ []) (tree any_bytes 1 104 (0xaa ∷ []) end end) end)))) (
    tree agent_name 1 107 (0x7a ∷ []) end end)) (
    tree from_opens 0 111 [] (
    tree agent_name 1 113 (0x78 ∷ []) (
    tree addresses_open 1 115 [] (
    tree address 1 116 (0x75 ∷ []) end (
    tree address 1 118 (0x77 ∷ []) end end)) (
    tree resolvers_open 1 121 [] (tree agent_name 2 123 (0x79 ∷ []) end end) (
    tree extra_key 1 128 (0x6b ∷ []) (tree any_text 1 131 (hex 0x1_76_0a) end end) (
    tree extra_key 1 135 (0x6c ∷ []) (tree any_bytes 1 139 (0xaa ∷ []) end end) end)))) end) (
    tree standard_representation 0 142 (0x10 ∷ []) end (
    tree standard_representation 0 144 (0x11 ∷ []) end (
    tree standard_representation 0 146 (0x12 ∷ []) end (
    tree own_representation 0 149 (0x72 ∷ []) end (
    tree comments 0 152 (hex 0x1_61_09_62_0d_0a_63) end (
    tree payload_length 0 160 (hex 0x1_23_00) end (
    tree payload_length 0 163 (0x80 ∷ []) end (
    tree payload_encoding 0 165 (0x65 ∷ []) end (
    tree receiver_opens 0 167 [] end (
    tree received_by 0 170 (hex 0x1_62_79) (tree date_absolute 1 174 may_date end end) (
    tree received_by 0 185 [] (tree date_forward 1 187 (hex 0x1_11_11_11_11_11_21_11_11_10) end end) (
    tree received_by 0 198 [] (tree date_backward 1 200 (hex 0x1_11_11_11_11_11_21_11_11_10) end end) (
    tree received_by 0 211 [] (
    tree date_forward 1 213 (hex 0x1_11_11_11_11_11_21_11_11_10_61) end (
    tree received_id 1 224 (hex 0x1_69_64) end end)) (
    tree received_by 0 229 [] (
    tree date_backward 1 231 (hex 0x1_11_11_11_11_11_21_11_11_10_61) end (
    tree received_id 1 242 (hex 0x1_69_64) end end)) (
    tree behaviour_opens 0 246 [] (tree any_text 0 248 (hex 0x1_61_6e_79) end end) (
    tree behaviour_opens 0 252 [] (tree any_bytes 0 255 (hex 0x1_00_ff) end end) (
    tree behaviour_opens 0 257 [] (tree any_bytes 0 261 (0xbb ∷ []) end end) (
    tree behaviour_opens 0 262 [] (tree any_bytes 0 268 (0xcc ∷ []) end end) end))))))))))))))))))))))) end)

pub whole_is : Header (told_by tolerant D) 0 (whole_extension ++ whole_base) whole_trees
unfolding text_ok text_byte date_ok passes last_day number_ok turn too_wide
whole_is =
    (up_to.more (of {bytes = whole_extension} (leb→le 47 1048576 tt) ((byte.it then first (these (short (ltb→lt 47 65536 tt))) then (holds (textual {v = (hex 0x1_62_79)} tt) ((other (other (other (other (first (met refl (shows (coded (lettered_coded absolute (hex 0x1_31_11_16_19_15_37_62_59_20_5a) tt))))))))) then present (shows (coded (textual {v = (hex 0x1_66_72_6f_6d)} tt))) then present (shows (coded (textual {v = (hex 0x1_69_64)} tt))) then present (shows (coded (textual {v = (hex 0x1_76_69_61)} tt))) then (many.more (met refl (other (met refl (holds (coded (textual {v = (0x6b ∷ [])} tt)) (first (shows (coded (textual {v = (hex 0x1_76_0a)} tt)))))))) (many.more (met refl (other (met refl (holds (coded (textual {v = (0x6c ∷ [])} tt)) (other (first (shows (coded (block_in (told_by tolerant D) one_byte (0xaa ∷ []) tt))))))))) many.none)) then byte.it))) then
    many.none then byte.it)) (up_to.none)) then
    of {bytes = whole_base} (leb→le 223 1048576 tt) ((byte.it then first (these (short (ltb→lt 223 65536 tt))) then (first (shows (coded (textual {v = (hex 0x1_6f_77_6e)} tt)))) then (first (shows (coded (plain_coded absolute may_date tt))))) then
    (many.more (other (holds (coded (textual {v = (hex 0x1_6b_65_79)} tt)) (shows (textual {v = (hex 0x1_76_61_6c_75_65)} tt))))
    (many.more (first (first (holds opens.it ((many.more (holds (coded (textual {v = (0x78 ∷ [])} tt)) (present (holds opens.it ((many.more (shows (textual {v = (0x75 ∷ [])} tt)) (many.more (shows (textual {v = (0x77 ∷ [])} tt)) many.none)) then byte.it)) then present (holds opens.it ((many.more (holds (coded (textual {v = (0x79 ∷ [])} tt)) (absent then absent then many.none then byte.it)) many.none) then byte.it)) then (many.more (other (met refl (holds (coded (textual {v = (0x6b ∷ [])} tt)) (first (shows (coded (textual {v = (hex 0x1_76_0a)} tt))))))) (many.more (other (met refl (holds (coded (textual {v = (0x6c ∷ [])} tt)) (other (first (shows (coded (block_in (told_by tolerant D) one_byte (0xaa ∷ []) tt)))))))) many.none)) then byte.it)) (many.more (holds (coded (textual {v = (0x7a ∷ [])} tt)) (absent then absent then many.none then byte.it)) many.none)) then byte.it))))
    (many.more (first (other (first (holds opens.it (holds (coded (textual {v = (0x78 ∷ [])} tt)) (present (holds opens.it ((many.more (shows (textual {v = (0x75 ∷ [])} tt)) (many.more (shows (textual {v = (0x77 ∷ [])} tt)) many.none)) then byte.it)) then present (holds opens.it ((many.more (holds (coded (textual {v = (0x79 ∷ [])} tt)) (absent then absent then many.none then byte.it)) many.none) then byte.it)) then (many.more (other (met refl (holds (coded (textual {v = (0x6b ∷ [])} tt)) (first (shows (coded (textual {v = (hex 0x1_76_0a)} tt))))))) (many.more (other (met refl (holds (coded (textual {v = (0x6c ∷ [])} tt)) (other (first (shows (coded (block_in (told_by tolerant D) one_byte (0xaa ∷ []) tt)))))))) many.none)) then byte.it))))))
    (many.more (first (other (other (first (byte.it then (other (first (shows itself.it))))))))
    (many.more (first (other (other (first (byte.it then (other (other (first (shows itself.it)))))))))
    (many.more (first (other (other (first (byte.it then (other (other (other (shows itself.it)))))))))
    (many.more (first (other (other (first (byte.it then (first (shows (coded (textual {v = (0x72 ∷ [])} tt)))))))))
    (many.more (first (other (other (other (first (shows (coded (textual {v = (hex 0x1_61_09_62_0d_0a_63)} tt))))))))
    (many.more (first (other (other (other (other (first (shows (coded (number_in (hex 0x1_23_00) tt)))))))))
    (many.more (first (other (other (other (other (first (shows (coded (number_in (0x80 ∷ []) tt)))))))))
    (many.more (first (other (other (other (other (other (first (shows (coded (textual {v = (0x65 ∷ [])} tt))))))))))
    (many.more (first (other (other (other (other (other (other (other (first (holds opens.it (many.none then byte.it)))))))))))
    (many.more (first (other (other (other (other (other (other (other (other (first (byte.it then (holds (textual {v = (hex 0x1_62_79)} tt) ((first (shows (coded (plain_coded absolute may_date tt)))) then absent then absent then absent then many.none then byte.it)))))))))))))
    (many.more (first (other (other (other (other (other (other (other (other (first (byte.it then (holds (textual {v = []} tt) ((other (other (first (met refl (shows (coded (plain_coded relative (hex 0x1_11_11_11_11_11_21_11_11_10) tt))))))) then absent then absent then absent then many.none then byte.it)))))))))))))
    (many.more (first (other (other (other (other (other (other (other (other (first (byte.it then (holds (textual {v = []} tt) ((other (other (other (first (met refl (shows (coded (plain_coded relative (hex 0x1_11_11_11_11_11_21_11_11_10) tt)))))))) then absent then absent then absent then many.none then byte.it)))))))))))))
    (many.more (first (other (other (other (other (other (other (other (other (first (byte.it then (holds (textual {v = []} tt) ((other (other (other (other (other (first (met refl (shows (coded (lettered_coded relative (hex 0x1_11_11_11_11_11_21_11_11_10_61) tt)))))))))) then absent then present (shows (coded (textual {v = (hex 0x1_69_64)} tt))) then absent then many.none then byte.it)))))))))))))
    (many.more (first (other (other (other (other (other (other (other (other (first (byte.it then (holds (textual {v = []} tt) ((other (other (other (other (other (other (met refl (shows (coded (lettered_coded relative (hex 0x1_11_11_11_11_11_21_11_11_10_61) tt)))))))))) then absent then present (shows (coded (textual {v = (hex 0x1_69_64)} tt))) then absent then many.none then byte.it)))))))))))))
    (many.more (first (other (other (other (other (other (other (other (other (other (holds opens.it (first (shows (coded (textual {v = (hex 0x1_61_6e_79)} tt)))))))))))))))
    (many.more (first (other (other (other (other (other (other (other (other (other (holds opens.it (other (first (shows (coded (block_in (told_by tolerant D) one_byte (hex 0x1_00_ff) tt))))))))))))))))
    (many.more (first (other (other (other (other (other (other (other (other (other (holds opens.it (other (other (first (shows (coded (block_in (told_by tolerant D) two_bytes (0xbb ∷ []) tt)))))))))))))))))
    (many.more (first (other (other (other (other (other (other (other (other (other (holds opens.it (other (other (other (shows (coded (block_in (told_by tolerant D) four_bytes (0xcc ∷ []) tt)))))))))))))))))
    many.none))))))))))))))))))))) then byte.it)

-- its rows: kind, level, start, length, skip number
pub whole_laid : laid 0 whole_trees
    ≡ (1 ∷ 0 ∷ 0 ∷ 0 ∷ 10 ∷ []) ++ (
    (8 ∷ 0 ∷ 3 ∷ 2 ∷ 10 ∷ []) ++ (
    (5 ∷ 1 ∷ 7 ∷ 10 ∷ 3 ∷ []) ++ (
    (9 ∷ 1 ∷ 18 ∷ 4 ∷ 4 ∷ []) ++ (
    (10 ∷ 1 ∷ 24 ∷ 2 ∷ 5 ∷ []) ++ (
    (11 ∷ 1 ∷ 28 ∷ 3 ∷ 6 ∷ []) ++ (
    (19 ∷ 1 ∷ 33 ∷ 1 ∷ 8 ∷ []) ++ (
    (20 ∷ 1 ∷ 36 ∷ 2 ∷ 8 ∷ []) ++ (
    (19 ∷ 1 ∷ 40 ∷ 1 ∷ 10 ∷ []) ++ (
    (21 ∷ 1 ∷ 44 ∷ 1 ∷ 10 ∷ []) ++ (
    (2 ∷ 0 ∷ 47 ∷ 0 ∷ 67 ∷ []) ++ (
    (4 ∷ 0 ∷ 51 ∷ 3 ∷ 12 ∷ []) ++ (
    (5 ∷ 0 ∷ 56 ∷ 9 ∷ 13 ∷ []) ++ (
    (27 ∷ 0 ∷ 66 ∷ 3 ∷ 15 ∷ []) ++ (
    (28 ∷ 0 ∷ 70 ∷ 5 ∷ 15 ∷ []) ++ (
    (12 ∷ 0 ∷ 76 ∷ 0 ∷ 27 ∷ []) ++ (
    (15 ∷ 1 ∷ 78 ∷ 1 ∷ 26 ∷ []) ++ (
    (16 ∷ 1 ∷ 80 ∷ 0 ∷ 20 ∷ []) ++ (
    (17 ∷ 1 ∷ 81 ∷ 1 ∷ 19 ∷ []) ++ (
    (17 ∷ 1 ∷ 83 ∷ 1 ∷ 20 ∷ []) ++ (
    (18 ∷ 1 ∷ 86 ∷ 0 ∷ 22 ∷ []) ++ (
    (15 ∷ 2 ∷ 88 ∷ 1 ∷ 22 ∷ []) ++ (
    (19 ∷ 1 ∷ 93 ∷ 1 ∷ 24 ∷ []) ++ (
    (20 ∷ 1 ∷ 96 ∷ 2 ∷ 24 ∷ []) ++ (
    (19 ∷ 1 ∷ 100 ∷ 1 ∷ 26 ∷ []) ++ (
    (21 ∷ 1 ∷ 104 ∷ 1 ∷ 26 ∷ []) ++ (
    (15 ∷ 1 ∷ 107 ∷ 1 ∷ 27 ∷ []) ++ (
    (13 ∷ 0 ∷ 111 ∷ 0 ∷ 38 ∷ []) ++ (
    (15 ∷ 1 ∷ 113 ∷ 1 ∷ 38 ∷ []) ++ (
    (16 ∷ 1 ∷ 115 ∷ 0 ∷ 32 ∷ []) ++ (
    (17 ∷ 1 ∷ 116 ∷ 1 ∷ 31 ∷ []) ++ (
    (17 ∷ 1 ∷ 118 ∷ 1 ∷ 32 ∷ []) ++ (
    (18 ∷ 1 ∷ 121 ∷ 0 ∷ 34 ∷ []) ++ (
    (15 ∷ 2 ∷ 123 ∷ 1 ∷ 34 ∷ []) ++ (
    (19 ∷ 1 ∷ 128 ∷ 1 ∷ 36 ∷ []) ++ (
    (20 ∷ 1 ∷ 131 ∷ 2 ∷ 36 ∷ []) ++ (
    (19 ∷ 1 ∷ 135 ∷ 1 ∷ 38 ∷ []) ++ (
    (21 ∷ 1 ∷ 139 ∷ 1 ∷ 38 ∷ []) ++ (
    (3 ∷ 0 ∷ 142 ∷ 1 ∷ 39 ∷ []) ++ (
    (3 ∷ 0 ∷ 144 ∷ 1 ∷ 40 ∷ []) ++ (
    (3 ∷ 0 ∷ 146 ∷ 1 ∷ 41 ∷ []) ++ (
    (4 ∷ 0 ∷ 149 ∷ 1 ∷ 42 ∷ []) ++ (
    (22 ∷ 0 ∷ 152 ∷ 6 ∷ 43 ∷ []) ++ (
    (23 ∷ 0 ∷ 160 ∷ 2 ∷ 44 ∷ []) ++ (
    (23 ∷ 0 ∷ 163 ∷ 1 ∷ 45 ∷ []) ++ (
    (24 ∷ 0 ∷ 165 ∷ 1 ∷ 46 ∷ []) ++ (
    (14 ∷ 0 ∷ 167 ∷ 0 ∷ 47 ∷ []) ++ (
    (8 ∷ 0 ∷ 170 ∷ 2 ∷ 49 ∷ []) ++ (
    (5 ∷ 1 ∷ 174 ∷ 9 ∷ 49 ∷ []) ++ (
    (8 ∷ 0 ∷ 185 ∷ 0 ∷ 51 ∷ []) ++ (
    (6 ∷ 1 ∷ 187 ∷ 9 ∷ 51 ∷ []) ++ (
    (8 ∷ 0 ∷ 198 ∷ 0 ∷ 53 ∷ []) ++ (
    (7 ∷ 1 ∷ 200 ∷ 9 ∷ 53 ∷ []) ++ (
    (8 ∷ 0 ∷ 211 ∷ 0 ∷ 56 ∷ []) ++ (
    (6 ∷ 1 ∷ 213 ∷ 10 ∷ 55 ∷ []) ++ (
    (10 ∷ 1 ∷ 224 ∷ 2 ∷ 56 ∷ []) ++ (
    (8 ∷ 0 ∷ 229 ∷ 0 ∷ 59 ∷ []) ++ (
    (7 ∷ 1 ∷ 231 ∷ 10 ∷ 58 ∷ []) ++ (
    (10 ∷ 1 ∷ 242 ∷ 2 ∷ 59 ∷ []) ++ (
    (29 ∷ 0 ∷ 246 ∷ 0 ∷ 61 ∷ []) ++ (
    (20 ∷ 0 ∷ 248 ∷ 3 ∷ 61 ∷ []) ++ (
    (29 ∷ 0 ∷ 252 ∷ 0 ∷ 63 ∷ []) ++ (
    (21 ∷ 0 ∷ 255 ∷ 2 ∷ 63 ∷ []) ++ (
    (29 ∷ 0 ∷ 257 ∷ 0 ∷ 65 ∷ []) ++ (
    (21 ∷ 0 ∷ 261 ∷ 1 ∷ 65 ∷ []) ++ (
    (29 ∷ 0 ∷ 262 ∷ 0 ∷ 67 ∷ []) ++ (
    (21 ∷ 0 ∷ 268 ∷ 1 ∷ 67 ∷ [])))))))))))))))))))))))))))))))))))))))))))))))))))))))))))))))))))
whole_laid = refl
