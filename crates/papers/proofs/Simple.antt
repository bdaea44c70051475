-- The papers' first example, derived by their rules, with the rows and skip numbers that the trees give.
use Rattle.std.specs.Prelude.{ℕ, List, [], ◌∷◌, ◌++◌, ◌≡◌, refl}
use Rattle.std.proofs.Common.{leb→le, ltb→lt}
use Rattle.meaning.specs.Told.{B, D, told}
use Rattle.meaning.specs.Bytes.{text_byte, text_ok, turn, number_ok, last_day, passes, date_ok, absolute, too_wide}
use Rattle.meaning.specs.Cases.{hex}
use Rattle.meaning.specs.Kinds.{base_opens, standard_representation, date_absolute, received_by, received_id, to_opens, from_opens, agent_name, addresses_open, address, encrypted_opens, encrypted_item}
use Rattle.papers.specs.Notation.{Trees, end, tree, laid, ◌then◌, first, other, absent, present, many, up_to, byte, these, met, shows, holds, opens, itself, coded}
use Rattle.papers.specs.Values.{short}
use Rattle.papers.specs.Papers.{of, Header}
use Rattle.papers.proofs.Texts.{textual}
use Rattle.papers.proofs.Dates.{plain_coded}
use Rattle.papers.specs.ExampleTexts.{an_id, bar_acc, foo_acc, no_encryption, receiver, sender, may_date}

-- 002's first example, edition D: samples/simple.envelope
abbrev simple_base : List ℕ
simple_base =
    hex 0x1_fe_00_8a_12_20_31_11_16_19_15_37_62_59_20_02_02_72_65_63_65_69_76_65_72_40_66_6f_6f_2e_63_6f_6d ++ (
    hex 0x1_00_02_68_74_74_70_3a_2f_2f_66_6f_6f_2e_63_6f_6d_2f_61_63_63_00_01_01_01_03_02_73_65_6e_64_65_72 ++ (
    hex 0x1_40_62_61_72_2e_63_6f_6d_00_02_68_74_74_70_3a_2f_2f_62_61_72_2e_63_6f_6d_2f_61_63_63_00_01_01_0a ++ (
    hex 0x1_68_74_74_70_3a_2f_2f_66_6f_6f_2e_63_6f_6d_2f_61_63_63_00_20_31_11_16_19_15_37_62_59_20_03_31_32 ++ (
    hex 0x1_33_34_35_36_37_38_39_00_01_01))))

abbrev simple_trees : Trees
simple_trees =
    tree base_opens 0 0 [] (
    tree standard_representation 0 3 (0x12 ∷ []) end (
    tree date_absolute 0 5 may_date end (
    tree to_opens 0 14 [] (tree agent_name 1 16 receiver (tree addresses_open 1 33 [] (tree address 1 34 foo_acc end end) end) end) (
    tree from_opens 0 56 [] (tree agent_name 1 58 sender (tree addresses_open 1 73 [] (tree address 1 74 bar_acc end end) end) end) (
    tree received_by 0 96 foo_acc (
    tree date_absolute 1 116 may_date end (
    tree received_id 1 126 an_id end end)) end))))) end

pub simple_is : Header (told D) 0 simple_base simple_trees
unfolding text_ok text_byte date_ok passes last_day number_ok turn too_wide
simple_is =
    up_to.none then
    of {bytes = simple_base} (leb→le 138 1048576 tt) ((byte.it then first (these (short (ltb→lt 138 65536 tt))) then (other (other (other (shows itself.it)))) then (first (shows (coded (plain_coded absolute may_date tt))))) then
    (many.more (first (first (holds opens.it ((many.more (holds (coded (textual {v = receiver} tt)) (present (holds opens.it ((many.more (shows (textual {v = foo_acc} tt)) many.none) then byte.it)) then absent then many.none then byte.it)) many.none) then byte.it))))
    (many.more (first (other (first (holds opens.it (holds (coded (textual {v = sender} tt)) (present (holds opens.it ((many.more (shows (textual {v = bar_acc} tt)) many.none) then byte.it)) then absent then many.none then byte.it))))))
    (many.more (first (other (other (other (other (other (other (other (other (first (byte.it then (holds (textual {v = foo_acc} tt) ((first (shows (coded (plain_coded absolute may_date tt)))) then absent then present (shows (coded (textual {v = an_id} tt))) then absent then many.none then byte.it)))))))))))))
    many.none))) then byte.it)

-- its rows: kind, level, start, length, skip number
pub simple_laid : laid 0 simple_trees
    ≡ (2 ∷ 0 ∷ 0 ∷ 0 ∷ 14 ∷ []) ++ (
    (3 ∷ 0 ∷ 3 ∷ 1 ∷ 2 ∷ []) ++ (
    (5 ∷ 0 ∷ 5 ∷ 9 ∷ 3 ∷ []) ++ (
    (12 ∷ 0 ∷ 14 ∷ 0 ∷ 7 ∷ []) ++ (
    (15 ∷ 1 ∷ 16 ∷ 16 ∷ 7 ∷ []) ++ (
    (16 ∷ 1 ∷ 33 ∷ 0 ∷ 7 ∷ []) ++ (
    (17 ∷ 1 ∷ 34 ∷ 18 ∷ 7 ∷ []) ++ (
    (13 ∷ 0 ∷ 56 ∷ 0 ∷ 11 ∷ []) ++ (
    (15 ∷ 1 ∷ 58 ∷ 14 ∷ 11 ∷ []) ++ (
    (16 ∷ 1 ∷ 73 ∷ 0 ∷ 11 ∷ []) ++ (
    (17 ∷ 1 ∷ 74 ∷ 18 ∷ 11 ∷ []) ++ (
    (8 ∷ 0 ∷ 96 ∷ 18 ∷ 14 ∷ []) ++ (
    (5 ∷ 1 ∷ 116 ∷ 9 ∷ 13 ∷ []) ++ (
    (10 ∷ 1 ∷ 126 ∷ 9 ∷ 14 ∷ []))))))))))))))
simple_laid = refl

-- 004's, edition B, with its encryption: samples/xml/004-simple.envelope
abbrev simple_slots_base : List ℕ
simple_slots_base =
    hex 0x1_fe_00_9a_12_20_31_11_16_19_15_37_62_59_20_02_02_72_65_63_65_69_76_65_72_40_66_6f_6f_2e_63_6f_6d ++ (
    hex 0x1_00_02_68_74_74_70_3a_2f_2f_66_6f_6f_2e_63_6f_6d_2f_61_63_63_00_01_01_01_03_02_73_65_6e_64_65_72 ++ (
    hex 0x1_40_62_61_72_2e_63_6f_6d_00_02_68_74_74_70_3a_2f_2f_62_61_72_2e_63_6f_6d_2f_61_63_63_00_01_01_08 ++ (
    hex 0x1_6e_6f_20_65_6e_63_72_79_70_74_69_6f_6e_00_01_0a_68_74_74_70_3a_2f_2f_66_6f_6f_2e_63_6f_6d_2f_61 ++ (
    hex 0x1_63_63_00_20_31_11_16_19_15_37_62_59_20_03_31_32_33_34_35_36_37_38_39_00_01_01))))

abbrev simple_slots_trees : Trees
simple_slots_trees =
    tree base_opens 0 0 [] (
    tree standard_representation 0 3 (0x12 ∷ []) end (
    tree date_absolute 0 5 may_date end (
    tree to_opens 0 14 [] (tree agent_name 1 16 receiver (tree addresses_open 1 33 [] (tree address 1 34 foo_acc end end) end) end) (
    tree from_opens 0 56 [] (tree agent_name 1 58 sender (tree addresses_open 1 73 [] (tree address 1 74 bar_acc end end) end) end) (
    tree encrypted_opens 0 95 [] (tree encrypted_item 0 96 no_encryption end end) (
    tree received_by 0 112 foo_acc (
    tree date_absolute 1 132 may_date end (
    tree received_id 1 142 an_id end end)) end)))))) end

pub simple_slots_is : Header (told B) 0 simple_slots_base simple_slots_trees
unfolding text_ok text_byte date_ok passes last_day number_ok turn too_wide
simple_slots_is =
    up_to.none then
    of {bytes = simple_slots_base} (leb→le 154 1048576 tt) ((byte.it then first (these (short (ltb→lt 154 65536 tt))) then (other (other (other (shows itself.it)))) then (first (shows (coded (plain_coded absolute may_date tt))))) then
    (many.more (first (first (holds opens.it ((many.more (holds (coded (textual {v = receiver} tt)) (present (holds opens.it ((many.more (shows (textual {v = foo_acc} tt)) many.none) then byte.it)) then absent then many.none then byte.it)) many.none) then byte.it))))
    (many.more (first (other (first (holds opens.it (holds (coded (textual {v = sender} tt)) (present (holds opens.it ((many.more (shows (textual {v = bar_acc} tt)) many.none) then byte.it)) then absent then many.none then byte.it))))))
    (many.more (first (other (other (other (other (other (other (first (met refl (holds opens.it ((many.more (shows (textual {v = no_encryption} tt)) many.none) then byte.it)))))))))))
    (many.more (first (other (other (other (other (other (other (other (other (first (byte.it then (holds (textual {v = foo_acc} tt) ((first (shows (coded (plain_coded absolute may_date tt)))) then absent then present (shows (coded (textual {v = an_id} tt))) then absent then many.none then byte.it)))))))))))))
    many.none)))) then byte.it)

-- its rows: kind, level, start, length, skip number
pub simple_slots_laid : laid 0 simple_slots_trees
    ≡ (2 ∷ 0 ∷ 0 ∷ 0 ∷ 16 ∷ []) ++ (
    (3 ∷ 0 ∷ 3 ∷ 1 ∷ 2 ∷ []) ++ (
    (5 ∷ 0 ∷ 5 ∷ 9 ∷ 3 ∷ []) ++ (
    (12 ∷ 0 ∷ 14 ∷ 0 ∷ 7 ∷ []) ++ (
    (15 ∷ 1 ∷ 16 ∷ 16 ∷ 7 ∷ []) ++ (
    (16 ∷ 1 ∷ 33 ∷ 0 ∷ 7 ∷ []) ++ (
    (17 ∷ 1 ∷ 34 ∷ 18 ∷ 7 ∷ []) ++ (
    (13 ∷ 0 ∷ 56 ∷ 0 ∷ 11 ∷ []) ++ (
    (15 ∷ 1 ∷ 58 ∷ 14 ∷ 11 ∷ []) ++ (
    (16 ∷ 1 ∷ 73 ∷ 0 ∷ 11 ∷ []) ++ (
    (17 ∷ 1 ∷ 74 ∷ 18 ∷ 11 ∷ []) ++ (
    (25 ∷ 0 ∷ 95 ∷ 0 ∷ 13 ∷ []) ++ (
    (26 ∷ 0 ∷ 96 ∷ 13 ∷ 13 ∷ []) ++ (
    (8 ∷ 0 ∷ 112 ∷ 18 ∷ 16 ∷ []) ++ (
    (5 ∷ 1 ∷ 132 ∷ 9 ∷ 15 ∷ []) ++ (
    (10 ∷ 1 ∷ 142 ∷ 9 ∷ 16 ∷ []))))))))))))))))
simple_slots_laid = refl
