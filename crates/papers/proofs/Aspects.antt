-- The papers' second example, derived by their rules, with the rows and skip numbers that the trees give.
use Rattle.std.specs.Prelude.{ℕ, List, [], ◌∷◌, ◌++◌, ◌≡◌, refl}
use Rattle.std.proofs.Common.{leb→le, ltb→lt}
use Rattle.meaning.specs.Told.{B, D, told}
use Rattle.meaning.specs.Bytes.{text_byte, text_ok, turn, number_ok, last_day, passes, date_ok, absolute, too_wide}
use Rattle.meaning.specs.Cases.{hex}
use Rattle.meaning.specs.Kinds.{base_opens, standard_representation, date_absolute, received_by, received_from, received_id, received_via, to_opens, from_opens, receiver_opens, agent_name, addresses_open, address, resolvers_open, comments, payload_encoding, encrypted_opens, encrypted_item}
use Rattle.papers.specs.Notation.{Trees, end, tree, laid, ◌then◌, first, other, absent, present, many, up_to, byte, these, met, shows, holds, opens, itself, coded}
use Rattle.papers.specs.Values.{short}
use Rattle.papers.specs.Papers.{of, Header}
use Rattle.papers.proofs.Texts.{textual}
use Rattle.papers.proofs.Dates.{plain_coded}
use Rattle.papers.specs.ExampleTexts.{an_id, bar_acc, bar_acc_one, bar_acc_three, bar_acc_two, bar_resolver, foo_acc, foobar_acc, foobar_acc_one, foobar_acc_three, foobar_acc_two, foobar_resolver, intended, no_comments, no_encryption, receiver, sender, us_ascii, may_date}

-- 002's second example, edition D, in which all aspects occur: samples/all-aspects.envelope
abbrev aspects_base : List ℕ
aspects_base =
    hex 0x1_fe_02_a4_12_20_31_11_16_19_15_37_62_59_20_02_02_72_65_63_65_69_76_65_72_40_66_6f_6f_2e_63_6f_6d ++ (
    hex 0x1_00_02_68_74_74_70_3a_2f_2f_66_6f_6f_2e_63_6f_6d_2f_61_63_63_00_01_03_02_72_65_73_6f_6c_76_65_72 ++ (
    hex 0x1_40_62_61_72_2e_63_6f_6d_00_02_68_74_74_70_3a_2f_2f_62_61_72_2e_63_6f_6d_2f_61_63_63_31_00_68_74 ++ (
    hex 0x1_74_70_3a_2f_2f_62_61_72_2e_63_6f_6d_2f_61_63_63_32_00_68_74_74_70_3a_2f_2f_62_61_72_2e_63_6f_6d ++ (
    hex 0x1_2f_61_63_63_33_00_01_01_01_01_01_03_02_73_65_6e_64_65_72_40_62_61_72_2e_63_6f_6d_00_02_68_74_74 ++ (
    hex 0x1_70_3a_2f_2f_62_61_72_2e_63_6f_6d_2f_61_63_63_00_01_03_02_72_65_73_6f_6c_76_65_72_40_66_6f_6f_62 ++ (
    hex 0x1_61_72_2e_63_6f_6d_00_02_68_74_74_70_3a_2f_2f_66_6f_6f_62_61_72_2e_63_6f_6d_2f_61_63_63_31_00_68 ++ (
    hex 0x1_74_74_70_3a_2f_2f_66_6f_6f_62_61_72_2e_63_6f_6d_2f_61_63_63_32_00_68_74_74_70_3a_2f_2f_66_6f_6f ++ (
    hex 0x1_62_61_72_2e_63_6f_6d_2f_61_63_63_33_00_01_01_01_01_05_4e_6f_20_63_6f_6d_6d_65_6e_74_73_21_00_07 ++ (
    hex 0x1_55_53_2d_41_53_43_49_49_00_09_02_69_6e_74_65_6e_64_65_64_72_65_63_65_69_76_65_72_40_66_6f_6f_62 ++ (
    hex 0x1_61_72_2e_63_6f_6d_00_02_68_74_74_70_3a_2f_2f_66_6f_6f_62_61_72_2e_63_6f_6d_2f_61_63_63_31_00_68 ++ (
    hex 0x1_74_74_70_3a_2f_2f_66_6f_6f_62_61_72_2e_63_6f_6d_2f_61_63_63_32_00_68_74_74_70_3a_2f_2f_66_6f_6f ++ (
    hex 0x1_62_61_72_2e_63_6f_6d_2f_61_63_63_33_00_01_03_02_72_65_73_6f_6c_76_65_72_40_66_6f_6f_62_61_72_2e ++ (
    hex 0x1_63_6f_6d_00_02_68_74_74_70_3a_2f_2f_66_6f_6f_62_61_72_2e_63_6f_6d_2f_61_63_63_31_00_68_74_74_70 ++ (
    hex 0x1_3a_2f_2f_66_6f_6f_62_61_72_2e_63_6f_6d_2f_61_63_63_32_00_68_74_74_70_3a_2f_2f_66_6f_6f_62_61_72 ++ (
    hex 0x1_2e_63_6f_6d_2f_61_63_63_33_00_01_03_02_72_65_73_6f_6c_76_65_72_40_66_6f_6f_62_61_72_2e_63_6f_6d ++ (
    hex 0x1_00_02_68_74_74_70_3a_2f_2f_66_6f_6f_62_61_72_2e_63_6f_6d_2f_61_63_63_31_00_68_74_74_70_3a_2f_2f ++ (
    hex 0x1_66_6f_6f_62_61_72_2e_63_6f_6d_2f_61_63_63_32_00_68_74_74_70_3a_2f_2f_66_6f_6f_62_61_72_2e_63_6f ++ (
    hex 0x1_6d_2f_61_63_63_33_00_01_01_01_01_01_01_01_0a_68_74_74_70_3a_2f_2f_66_6f_6f_2e_63_6f_6d_2f_61_63 ++ (
    hex 0x1_63_00_20_31_11_16_19_15_37_62_59_20_02_68_74_74_70_3a_2f_2f_66_6f_6f_62_61_72_2e_63_6f_6d_2f_61 ++ (
    hex 0x1_63_63_00_03_31_32_33_34_35_36_37_38_39_00_04_68_74_74_70_3a_2f_2f_62_61_72_2e_63_6f_6d_2f_61_63 ++ (
    hex 0x1_63_00_01_01)))))))))))))))))))))

abbrev aspects_trees : Trees
aspects_trees =
    tree base_opens 0 0 [] (
    tree standard_representation 0 3 (0x12 ∷ []) end (
    tree date_absolute 0 5 may_date end (
    tree to_opens 0 14 [] (
    tree agent_name 1 16 receiver (
    tree addresses_open 1 33 [] (tree address 1 34 foo_acc end end) (
    tree resolvers_open 1 54 [] (
    tree agent_name 2 56 bar_resolver (
    tree addresses_open 2 73 [] (
    tree address 2 74 bar_acc_one end (
    tree address 2 94 bar_acc_two end (
    tree address 2 114 bar_acc_three end end))) end) end) end)) end) (
    tree from_opens 0 139 [] (
    tree agent_name 1 141 sender (
    tree addresses_open 1 156 [] (tree address 1 157 bar_acc end end) (
    tree resolvers_open 1 177 [] (
    tree agent_name 2 179 foobar_resolver (
    tree addresses_open 2 199 [] (
    tree address 2 200 foobar_acc_one end (
    tree address 2 223 foobar_acc_two end (
    tree address 2 246 foobar_acc_three end end))) end) end) end)) end) (
    tree comments 0 274 no_comments end (
    tree payload_encoding 0 288 us_ascii end (
    tree receiver_opens 0 297 [] (
    tree agent_name 1 299 intended (
    tree addresses_open 1 327 [] (
    tree address 1 328 foobar_acc_one end (
    tree address 1 351 foobar_acc_two end (
    tree address 1 374 foobar_acc_three end end))) (
    tree resolvers_open 1 398 [] (
    tree agent_name 2 400 foobar_resolver (
    tree addresses_open 2 420 [] (
    tree address 2 421 foobar_acc_one end (
    tree address 2 444 foobar_acc_two end (
    tree address 2 467 foobar_acc_three end end))) (
    tree resolvers_open 2 491 [] (
    tree agent_name 3 493 foobar_resolver (
    tree addresses_open 3 513 [] (
    tree address 3 514 foobar_acc_one end (
    tree address 3 537 foobar_acc_two end (
    tree address 3 560 foobar_acc_three end end))) end) end) end)) end) end)) end) (
    tree received_by 0 591 foo_acc (
    tree date_absolute 1 611 may_date end (
    tree received_from 1 621 foobar_acc end (
    tree received_id 1 644 an_id end (
    tree received_via 1 655 bar_acc end end)))) end)))))))) end

pub aspects_is : Header (told D) 0 aspects_base aspects_trees
unfolding text_ok text_byte date_ok passes last_day number_ok turn too_wide
aspects_is =
    up_to.none then
    of {bytes = aspects_base} (leb→le 676 1048576 tt) ((byte.it then first (these (short (ltb→lt 676 65536 tt))) then (other (other (other (shows itself.it)))) then (first (shows (coded (plain_coded absolute may_date tt))))) then
    (many.more (first (first (holds opens.it ((many.more (holds (coded (textual {v = receiver} tt)) (present (holds opens.it ((many.more (shows (textual {v = foo_acc} tt)) many.none) then byte.it)) then present (holds opens.it ((many.more (holds (coded (textual {v = bar_resolver} tt)) (present (holds opens.it ((many.more (shows (textual {v = bar_acc_one} tt)) (many.more (shows (textual {v = bar_acc_two} tt)) (many.more (shows (textual {v = bar_acc_three} tt)) many.none))) then byte.it)) then absent then many.none then byte.it)) many.none) then byte.it)) then many.none then byte.it)) many.none) then byte.it))))
    (many.more (first (other (first (holds opens.it (holds (coded (textual {v = sender} tt)) (present (holds opens.it ((many.more (shows (textual {v = bar_acc} tt)) many.none) then byte.it)) then present (holds opens.it ((many.more (holds (coded (textual {v = foobar_resolver} tt)) (present (holds opens.it ((many.more (shows (textual {v = foobar_acc_one} tt)) (many.more (shows (textual {v = foobar_acc_two} tt)) (many.more (shows (textual {v = foobar_acc_three} tt)) many.none))) then byte.it)) then absent then many.none then byte.it)) many.none) then byte.it)) then many.none then byte.it))))))
    (many.more (first (other (other (other (first (shows (coded (textual {v = no_comments} tt))))))))
    (many.more (first (other (other (other (other (other (first (shows (coded (textual {v = us_ascii} tt))))))))))
    (many.more (first (other (other (other (other (other (other (other (first (holds opens.it ((many.more (holds (coded (textual {v = intended} tt)) (present (holds opens.it ((many.more (shows (textual {v = foobar_acc_one} tt)) (many.more (shows (textual {v = foobar_acc_two} tt)) (many.more (shows (textual {v = foobar_acc_three} tt)) many.none))) then byte.it)) then present (holds opens.it ((many.more (holds (coded (textual {v = foobar_resolver} tt)) (present (holds opens.it ((many.more (shows (textual {v = foobar_acc_one} tt)) (many.more (shows (textual {v = foobar_acc_two} tt)) (many.more (shows (textual {v = foobar_acc_three} tt)) many.none))) then byte.it)) then present (holds opens.it ((many.more (holds (coded (textual {v = foobar_resolver} tt)) (present (holds opens.it ((many.more (shows (textual {v = foobar_acc_one} tt)) (many.more (shows (textual {v = foobar_acc_two} tt)) (many.more (shows (textual {v = foobar_acc_three} tt)) many.none))) then byte.it)) then absent then many.none then byte.it)) many.none) then byte.it)) then many.none then byte.it)) many.none) then byte.it)) then many.none then byte.it)) many.none) then byte.it)))))))))))
    (many.more (first (other (other (other (other (other (other (other (other (first (byte.it then (holds (textual {v = foo_acc} tt) ((first (shows (coded (plain_coded absolute may_date tt)))) then present (shows (coded (textual {v = foobar_acc} tt))) then present (shows (coded (textual {v = an_id} tt))) then present (shows (coded (textual {v = bar_acc} tt))) then many.none then byte.it)))))))))))))
    many.none)))))) then byte.it)

-- its rows: kind, level, start, length, skip number
pub aspects_laid : laid 0 aspects_trees
    ≡ (2 ∷ 0 ∷ 0 ∷ 0 ∷ 48 ∷ []) ++ (
    (3 ∷ 0 ∷ 3 ∷ 1 ∷ 2 ∷ []) ++ (
    (5 ∷ 0 ∷ 5 ∷ 9 ∷ 3 ∷ []) ++ (
    (12 ∷ 0 ∷ 14 ∷ 0 ∷ 13 ∷ []) ++ (
    (15 ∷ 1 ∷ 16 ∷ 16 ∷ 13 ∷ []) ++ (
    (16 ∷ 1 ∷ 33 ∷ 0 ∷ 7 ∷ []) ++ (
    (17 ∷ 1 ∷ 34 ∷ 18 ∷ 7 ∷ []) ++ (
    (18 ∷ 1 ∷ 54 ∷ 0 ∷ 13 ∷ []) ++ (
    (15 ∷ 2 ∷ 56 ∷ 16 ∷ 13 ∷ []) ++ (
    (16 ∷ 2 ∷ 73 ∷ 0 ∷ 13 ∷ []) ++ (
    (17 ∷ 2 ∷ 74 ∷ 19 ∷ 11 ∷ []) ++ (
    (17 ∷ 2 ∷ 94 ∷ 19 ∷ 12 ∷ []) ++ (
    (17 ∷ 2 ∷ 114 ∷ 19 ∷ 13 ∷ []) ++ (
    (13 ∷ 0 ∷ 139 ∷ 0 ∷ 23 ∷ []) ++ (
    (15 ∷ 1 ∷ 141 ∷ 14 ∷ 23 ∷ []) ++ (
    (16 ∷ 1 ∷ 156 ∷ 0 ∷ 17 ∷ []) ++ (
    (17 ∷ 1 ∷ 157 ∷ 18 ∷ 17 ∷ []) ++ (
    (18 ∷ 1 ∷ 177 ∷ 0 ∷ 23 ∷ []) ++ (
    (15 ∷ 2 ∷ 179 ∷ 19 ∷ 23 ∷ []) ++ (
    (16 ∷ 2 ∷ 199 ∷ 0 ∷ 23 ∷ []) ++ (
    (17 ∷ 2 ∷ 200 ∷ 22 ∷ 21 ∷ []) ++ (
    (17 ∷ 2 ∷ 223 ∷ 22 ∷ 22 ∷ []) ++ (
    (17 ∷ 2 ∷ 246 ∷ 22 ∷ 23 ∷ []) ++ (
    (22 ∷ 0 ∷ 274 ∷ 12 ∷ 24 ∷ []) ++ (
    (24 ∷ 0 ∷ 288 ∷ 8 ∷ 25 ∷ []) ++ (
    (14 ∷ 0 ∷ 297 ∷ 0 ∷ 43 ∷ []) ++ (
    (15 ∷ 1 ∷ 299 ∷ 27 ∷ 43 ∷ []) ++ (
    (16 ∷ 1 ∷ 327 ∷ 0 ∷ 31 ∷ []) ++ (
    (17 ∷ 1 ∷ 328 ∷ 22 ∷ 29 ∷ []) ++ (
    (17 ∷ 1 ∷ 351 ∷ 22 ∷ 30 ∷ []) ++ (
    (17 ∷ 1 ∷ 374 ∷ 22 ∷ 31 ∷ []) ++ (
    (18 ∷ 1 ∷ 398 ∷ 0 ∷ 43 ∷ []) ++ (
    (15 ∷ 2 ∷ 400 ∷ 19 ∷ 43 ∷ []) ++ (
    (16 ∷ 2 ∷ 420 ∷ 0 ∷ 37 ∷ []) ++ (
    (17 ∷ 2 ∷ 421 ∷ 22 ∷ 35 ∷ []) ++ (
    (17 ∷ 2 ∷ 444 ∷ 22 ∷ 36 ∷ []) ++ (
    (17 ∷ 2 ∷ 467 ∷ 22 ∷ 37 ∷ []) ++ (
    (18 ∷ 2 ∷ 491 ∷ 0 ∷ 43 ∷ []) ++ (
    (15 ∷ 3 ∷ 493 ∷ 19 ∷ 43 ∷ []) ++ (
    (16 ∷ 3 ∷ 513 ∷ 0 ∷ 43 ∷ []) ++ (
    (17 ∷ 3 ∷ 514 ∷ 22 ∷ 41 ∷ []) ++ (
    (17 ∷ 3 ∷ 537 ∷ 22 ∷ 42 ∷ []) ++ (
    (17 ∷ 3 ∷ 560 ∷ 22 ∷ 43 ∷ []) ++ (
    (8 ∷ 0 ∷ 591 ∷ 18 ∷ 48 ∷ []) ++ (
    (5 ∷ 1 ∷ 611 ∷ 9 ∷ 45 ∷ []) ++ (
    (9 ∷ 1 ∷ 621 ∷ 21 ∷ 46 ∷ []) ++ (
    (10 ∷ 1 ∷ 644 ∷ 9 ∷ 47 ∷ []) ++ (
    (11 ∷ 1 ∷ 655 ∷ 18 ∷ 48 ∷ []))))))))))))))))))))))))))))))))))))))))))))))))
aspects_laid = refl

-- 004's, edition B, with its encryption: samples/xml/004-all-aspects.envelope
abbrev aspects_slots_base : List ℕ
aspects_slots_base =
    hex 0x1_fe_02_b4_12_20_31_11_16_19_15_37_62_59_20_02_02_72_65_63_65_69_76_65_72_40_66_6f_6f_2e_63_6f_6d ++ (
    hex 0x1_00_02_68_74_74_70_3a_2f_2f_66_6f_6f_2e_63_6f_6d_2f_61_63_63_00_01_03_02_72_65_73_6f_6c_76_65_72 ++ (
    hex 0x1_40_62_61_72_2e_63_6f_6d_00_02_68_74_74_70_3a_2f_2f_62_61_72_2e_63_6f_6d_2f_61_63_63_31_00_68_74 ++ (
    hex 0x1_74_70_3a_2f_2f_62_61_72_2e_63_6f_6d_2f_61_63_63_32_00_68_74_74_70_3a_2f_2f_62_61_72_2e_63_6f_6d ++ (
    hex 0x1_2f_61_63_63_33_00_01_01_01_01_01_03_02_73_65_6e_64_65_72_40_62_61_72_2e_63_6f_6d_00_02_68_74_74 ++ (
    hex 0x1_70_3a_2f_2f_62_61_72_2e_63_6f_6d_2f_61_63_63_00_01_03_02_72_65_73_6f_6c_76_65_72_40_66_6f_6f_62 ++ (
    hex 0x1_61_72_2e_63_6f_6d_00_02_68_74_74_70_3a_2f_2f_66_6f_6f_62_61_72_2e_63_6f_6d_2f_61_63_63_31_00_68 ++ (
    hex 0x1_74_74_70_3a_2f_2f_66_6f_6f_62_61_72_2e_63_6f_6d_2f_61_63_63_32_00_68_74_74_70_3a_2f_2f_66_6f_6f ++ (
    hex 0x1_62_61_72_2e_63_6f_6d_2f_61_63_63_33_00_01_01_01_01_05_4e_6f_20_63_6f_6d_6d_65_6e_74_73_21_00_07 ++ (
    hex 0x1_55_53_2d_41_53_43_49_49_00_08_6e_6f_20_65_6e_63_72_79_70_74_69_6f_6e_00_01_09_02_69_6e_74_65_6e ++ (
    hex 0x1_64_65_64_72_65_63_65_69_76_65_72_40_66_6f_6f_62_61_72_2e_63_6f_6d_00_02_68_74_74_70_3a_2f_2f_66 ++ (
    hex 0x1_6f_6f_62_61_72_2e_63_6f_6d_2f_61_63_63_31_00_68_74_74_70_3a_2f_2f_66_6f_6f_62_61_72_2e_63_6f_6d ++ (
    hex 0x1_2f_61_63_63_32_00_68_74_74_70_3a_2f_2f_66_6f_6f_62_61_72_2e_63_6f_6d_2f_61_63_63_33_00_01_03_02 ++ (
    hex 0x1_72_65_73_6f_6c_76_65_72_40_66_6f_6f_62_61_72_2e_63_6f_6d_00_02_68_74_74_70_3a_2f_2f_66_6f_6f_62 ++ (
    hex 0x1_61_72_2e_63_6f_6d_2f_61_63_63_31_00_68_74_74_70_3a_2f_2f_66_6f_6f_62_61_72_2e_63_6f_6d_2f_61_63 ++ (
    hex 0x1_63_32_00_68_74_74_70_3a_2f_2f_66_6f_6f_62_61_72_2e_63_6f_6d_2f_61_63_63_33_00_01_03_02_72_65_73 ++ (
    hex 0x1_6f_6c_76_65_72_40_66_6f_6f_62_61_72_2e_63_6f_6d_00_02_68_74_74_70_3a_2f_2f_66_6f_6f_62_61_72_2e ++ (
    hex 0x1_63_6f_6d_2f_61_63_63_31_00_68_74_74_70_3a_2f_2f_66_6f_6f_62_61_72_2e_63_6f_6d_2f_61_63_63_32_00 ++ (
    hex 0x1_68_74_74_70_3a_2f_2f_66_6f_6f_62_61_72_2e_63_6f_6d_2f_61_63_63_33_00_01_01_01_01_01_01_01_0a_68 ++ (
    hex 0x1_74_74_70_3a_2f_2f_66_6f_6f_2e_63_6f_6d_2f_61_63_63_00_20_31_11_16_19_15_37_62_59_20_02_68_74_74 ++ (
    hex 0x1_70_3a_2f_2f_66_6f_6f_62_61_72_2e_63_6f_6d_2f_61_63_63_00_03_31_32_33_34_35_36_37_38_39_00_04_68 ++ (
    hex 0x1_74_74_70_3a_2f_2f_62_61_72_2e_63_6f_6d_2f_61_63_63_00_01_01)))))))))))))))))))))

abbrev aspects_slots_trees : Trees
aspects_slots_trees =
    tree base_opens 0 0 [] (
    tree standard_representation 0 3 (0x12 ∷ []) end (
    tree date_absolute 0 5 may_date end (
    tree to_opens 0 14 [] (
    tree agent_name 1 16 receiver (
    tree addresses_open 1 33 [] (tree address 1 34 foo_acc end end) (
    tree resolvers_open 1 54 [] (
    tree agent_name 2 56 bar_resolver (
    tree addresses_open 2 73 [] (
    tree address 2 74 bar_acc_one end (
    tree address 2 94 bar_acc_two end (
    tree address 2 114 bar_acc_three end end))) end) end) end)) end) (
    tree from_opens 0 139 [] (
    tree agent_name 1 141 sender (
    tree addresses_open 1 156 [] (tree address 1 157 bar_acc end end) (
    tree resolvers_open 1 177 [] (
    tree agent_name 2 179 foobar_resolver (
    tree addresses_open 2 199 [] (
    tree address 2 200 foobar_acc_one end (
    tree address 2 223 foobar_acc_two end (
    tree address 2 246 foobar_acc_three end end))) end) end) end)) end) (
    tree comments 0 274 no_comments end (
    tree payload_encoding 0 288 us_ascii end (
    tree encrypted_opens 0 297 [] (tree encrypted_item 0 298 no_encryption end end) (
    tree receiver_opens 0 313 [] (
    tree agent_name 1 315 intended (
    tree addresses_open 1 343 [] (
    tree address 1 344 foobar_acc_one end (
    tree address 1 367 foobar_acc_two end (
    tree address 1 390 foobar_acc_three end end))) (
    tree resolvers_open 1 414 [] (
    tree agent_name 2 416 foobar_resolver (
    tree addresses_open 2 436 [] (
    tree address 2 437 foobar_acc_one end (
    tree address 2 460 foobar_acc_two end (
    tree address 2 483 foobar_acc_three end end))) (
    tree resolvers_open 2 507 [] (
    tree agent_name 3 509 foobar_resolver (
    tree addresses_open 3 529 [] (
    tree address 3 530 foobar_acc_one end (
    tree address 3 553 foobar_acc_two end (
    tree address 3 576 foobar_acc_three end end))) end) end) end)) end) end)) end) (
    tree received_by 0 607 foo_acc (
    tree date_absolute 1 627 may_date end (
    tree received_from 1 637 foobar_acc end (
    tree received_id 1 660 an_id end (
    tree received_via 1 671 bar_acc end end)))) end))))))))) end

pub aspects_slots_is : Header (told B) 0 aspects_slots_base aspects_slots_trees
unfolding text_ok text_byte date_ok passes last_day number_ok turn too_wide
aspects_slots_is =
    up_to.none then
    of {bytes = aspects_slots_base} (leb→le 692 1048576 tt) ((byte.it then first (these (short (ltb→lt 692 65536 tt))) then (other (other (other (shows itself.it)))) then (first (shows (coded (plain_coded absolute may_date tt))))) then
    (many.more (first (first (holds opens.it ((many.more (holds (coded (textual {v = receiver} tt)) (present (holds opens.it ((many.more (shows (textual {v = foo_acc} tt)) many.none) then byte.it)) then present (holds opens.it ((many.more (holds (coded (textual {v = bar_resolver} tt)) (present (holds opens.it ((many.more (shows (textual {v = bar_acc_one} tt)) (many.more (shows (textual {v = bar_acc_two} tt)) (many.more (shows (textual {v = bar_acc_three} tt)) many.none))) then byte.it)) then absent then many.none then byte.it)) many.none) then byte.it)) then many.none then byte.it)) many.none) then byte.it))))
    (many.more (first (other (first (holds opens.it (holds (coded (textual {v = sender} tt)) (present (holds opens.it ((many.more (shows (textual {v = bar_acc} tt)) many.none) then byte.it)) then present (holds opens.it ((many.more (holds (coded (textual {v = foobar_resolver} tt)) (present (holds opens.it ((many.more (shows (textual {v = foobar_acc_one} tt)) (many.more (shows (textual {v = foobar_acc_two} tt)) (many.more (shows (textual {v = foobar_acc_three} tt)) many.none))) then byte.it)) then absent then many.none then byte.it)) many.none) then byte.it)) then many.none then byte.it))))))
    (many.more (first (other (other (other (first (shows (coded (textual {v = no_comments} tt))))))))
    (many.more (first (other (other (other (other (other (first (shows (coded (textual {v = us_ascii} tt))))))))))
    (many.more (first (other (other (other (other (other (other (first (met refl (holds opens.it ((many.more (shows (textual {v = no_encryption} tt)) many.none) then byte.it)))))))))))
    (many.more (first (other (other (other (other (other (other (other (first (holds opens.it ((many.more (holds (coded (textual {v = intended} tt)) (present (holds opens.it ((many.more (shows (textual {v = foobar_acc_one} tt)) (many.more (shows (textual {v = foobar_acc_two} tt)) (many.more (shows (textual {v = foobar_acc_three} tt)) many.none))) then byte.it)) then present (holds opens.it ((many.more (holds (coded (textual {v = foobar_resolver} tt)) (present (holds opens.it ((many.more (shows (textual {v = foobar_acc_one} tt)) (many.more (shows (textual {v = foobar_acc_two} tt)) (many.more (shows (textual {v = foobar_acc_three} tt)) many.none))) then byte.it)) then present (holds opens.it ((many.more (holds (coded (textual {v = foobar_resolver} tt)) (present (holds opens.it ((many.more (shows (textual {v = foobar_acc_one} tt)) (many.more (shows (textual {v = foobar_acc_two} tt)) (many.more (shows (textual {v = foobar_acc_three} tt)) many.none))) then byte.it)) then absent then many.none then byte.it)) many.none) then byte.it)) then many.none then byte.it)) many.none) then byte.it)) then many.none then byte.it)) many.none) then byte.it)))))))))))
    (many.more (first (other (other (other (other (other (other (other (other (first (byte.it then (holds (textual {v = foo_acc} tt) ((first (shows (coded (plain_coded absolute may_date tt)))) then present (shows (coded (textual {v = foobar_acc} tt))) then present (shows (coded (textual {v = an_id} tt))) then present (shows (coded (textual {v = bar_acc} tt))) then many.none then byte.it)))))))))))))
    many.none))))))) then byte.it)

-- its rows: kind, level, start, length, skip number
pub aspects_slots_laid : laid 0 aspects_slots_trees
    ≡ (2 ∷ 0 ∷ 0 ∷ 0 ∷ 50 ∷ []) ++ (
    (3 ∷ 0 ∷ 3 ∷ 1 ∷ 2 ∷ []) ++ (
    (5 ∷ 0 ∷ 5 ∷ 9 ∷ 3 ∷ []) ++ (
    (12 ∷ 0 ∷ 14 ∷ 0 ∷ 13 ∷ []) ++ (
    (15 ∷ 1 ∷ 16 ∷ 16 ∷ 13 ∷ []) ++ (
    (16 ∷ 1 ∷ 33 ∷ 0 ∷ 7 ∷ []) ++ (
    (17 ∷ 1 ∷ 34 ∷ 18 ∷ 7 ∷ []) ++ (
    (18 ∷ 1 ∷ 54 ∷ 0 ∷ 13 ∷ []) ++ (
    (15 ∷ 2 ∷ 56 ∷ 16 ∷ 13 ∷ []) ++ (
    (16 ∷ 2 ∷ 73 ∷ 0 ∷ 13 ∷ []) ++ (
    (17 ∷ 2 ∷ 74 ∷ 19 ∷ 11 ∷ []) ++ (
    (17 ∷ 2 ∷ 94 ∷ 19 ∷ 12 ∷ []) ++ (
    (17 ∷ 2 ∷ 114 ∷ 19 ∷ 13 ∷ []) ++ (
    (13 ∷ 0 ∷ 139 ∷ 0 ∷ 23 ∷ []) ++ (
    (15 ∷ 1 ∷ 141 ∷ 14 ∷ 23 ∷ []) ++ (
    (16 ∷ 1 ∷ 156 ∷ 0 ∷ 17 ∷ []) ++ (
    (17 ∷ 1 ∷ 157 ∷ 18 ∷ 17 ∷ []) ++ (
    (18 ∷ 1 ∷ 177 ∷ 0 ∷ 23 ∷ []) ++ (
    (15 ∷ 2 ∷ 179 ∷ 19 ∷ 23 ∷ []) ++ (
    (16 ∷ 2 ∷ 199 ∷ 0 ∷ 23 ∷ []) ++ (
    (17 ∷ 2 ∷ 200 ∷ 22 ∷ 21 ∷ []) ++ (
    (17 ∷ 2 ∷ 223 ∷ 22 ∷ 22 ∷ []) ++ (
    (17 ∷ 2 ∷ 246 ∷ 22 ∷ 23 ∷ []) ++ (
    (22 ∷ 0 ∷ 274 ∷ 12 ∷ 24 ∷ []) ++ (
    (24 ∷ 0 ∷ 288 ∷ 8 ∷ 25 ∷ []) ++ (
    (25 ∷ 0 ∷ 297 ∷ 0 ∷ 27 ∷ []) ++ (
    (26 ∷ 0 ∷ 298 ∷ 13 ∷ 27 ∷ []) ++ (
    (14 ∷ 0 ∷ 313 ∷ 0 ∷ 45 ∷ []) ++ (
    (15 ∷ 1 ∷ 315 ∷ 27 ∷ 45 ∷ []) ++ (
    (16 ∷ 1 ∷ 343 ∷ 0 ∷ 33 ∷ []) ++ (
    (17 ∷ 1 ∷ 344 ∷ 22 ∷ 31 ∷ []) ++ (
    (17 ∷ 1 ∷ 367 ∷ 22 ∷ 32 ∷ []) ++ (
    (17 ∷ 1 ∷ 390 ∷ 22 ∷ 33 ∷ []) ++ (
    (18 ∷ 1 ∷ 414 ∷ 0 ∷ 45 ∷ []) ++ (
    (15 ∷ 2 ∷ 416 ∷ 19 ∷ 45 ∷ []) ++ (
    (16 ∷ 2 ∷ 436 ∷ 0 ∷ 39 ∷ []) ++ (
    (17 ∷ 2 ∷ 437 ∷ 22 ∷ 37 ∷ []) ++ (
    (17 ∷ 2 ∷ 460 ∷ 22 ∷ 38 ∷ []) ++ (
    (17 ∷ 2 ∷ 483 ∷ 22 ∷ 39 ∷ []) ++ (
    (18 ∷ 2 ∷ 507 ∷ 0 ∷ 45 ∷ []) ++ (
    (15 ∷ 3 ∷ 509 ∷ 19 ∷ 45 ∷ []) ++ (
    (16 ∷ 3 ∷ 529 ∷ 0 ∷ 45 ∷ []) ++ (
    (17 ∷ 3 ∷ 530 ∷ 22 ∷ 43 ∷ []) ++ (
    (17 ∷ 3 ∷ 553 ∷ 22 ∷ 44 ∷ []) ++ (
    (17 ∷ 3 ∷ 576 ∷ 22 ∷ 45 ∷ []) ++ (
    (8 ∷ 0 ∷ 607 ∷ 18 ∷ 50 ∷ []) ++ (
    (5 ∷ 1 ∷ 627 ∷ 9 ∷ 47 ∷ []) ++ (
    (9 ∷ 1 ∷ 637 ∷ 21 ∷ 48 ∷ []) ++ (
    (10 ∷ 1 ∷ 660 ∷ 9 ∷ 49 ∷ []) ++ (
    (11 ∷ 1 ∷ 671 ∷ 18 ∷ 50 ∷ []))))))))))))))))))))))))))))))))))))))))))))))))))
aspects_slots_laid = refl
