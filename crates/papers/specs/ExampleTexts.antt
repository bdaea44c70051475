-- The texts of the papers' examples, and their date, as bytes.
use Rattle.std.specs.Prelude.{ℕ, List}
use Rattle.meaning.specs.Cases.{hex}

-- 8 May 2000, 04:26:51.481; the papers print its month as 06, and Table 2 makes it 16
abbrev pub may_date : List ℕ
may_date = hex 0x1_31_11_16_19_15_37_62_59_20

-- receiver@foo.com
abbrev pub receiver : List ℕ
receiver = hex 0x1_72_65_63_65_69_76_65_72_40_66_6f_6f_2e_63_6f_6d

-- http://foo.com/acc
abbrev pub foo_acc : List ℕ
foo_acc = hex 0x1_68_74_74_70_3a_2f_2f_66_6f_6f_2e_63_6f_6d_2f_61_63_63

-- sender@bar.com
abbrev pub sender : List ℕ
sender = hex 0x1_73_65_6e_64_65_72_40_62_61_72_2e_63_6f_6d

-- http://bar.com/acc
abbrev pub bar_acc : List ℕ
bar_acc = hex 0x1_68_74_74_70_3a_2f_2f_62_61_72_2e_63_6f_6d_2f_61_63_63

-- 123456789
abbrev pub an_id : List ℕ
an_id = hex 0x1_31_32_33_34_35_36_37_38_39

-- no encryption
abbrev pub no_encryption : List ℕ
no_encryption = hex 0x1_6e_6f_20_65_6e_63_72_79_70_74_69_6f_6e

-- resolver@bar.com
abbrev pub bar_resolver : List ℕ
bar_resolver = hex 0x1_72_65_73_6f_6c_76_65_72_40_62_61_72_2e_63_6f_6d

-- http://bar.com/acc1
abbrev pub bar_acc_one : List ℕ
bar_acc_one = hex 0x1_68_74_74_70_3a_2f_2f_62_61_72_2e_63_6f_6d_2f_61_63_63_31

-- http://bar.com/acc2
abbrev pub bar_acc_two : List ℕ
bar_acc_two = hex 0x1_68_74_74_70_3a_2f_2f_62_61_72_2e_63_6f_6d_2f_61_63_63_32

-- http://bar.com/acc3
abbrev pub bar_acc_three : List ℕ
bar_acc_three = hex 0x1_68_74_74_70_3a_2f_2f_62_61_72_2e_63_6f_6d_2f_61_63_63_33

-- resolver@foobar.com
abbrev pub foobar_resolver : List ℕ
foobar_resolver = hex 0x1_72_65_73_6f_6c_76_65_72_40_66_6f_6f_62_61_72_2e_63_6f_6d

-- http://foobar.com/acc
abbrev pub foobar_acc : List ℕ
foobar_acc = hex 0x1_68_74_74_70_3a_2f_2f_66_6f_6f_62_61_72_2e_63_6f_6d_2f_61_63_63

-- http://foobar.com/acc1
abbrev pub foobar_acc_one : List ℕ
foobar_acc_one = hex 0x1_68_74_74_70_3a_2f_2f_66_6f_6f_62_61_72_2e_63_6f_6d_2f_61_63_63_31

-- http://foobar.com/acc2
abbrev pub foobar_acc_two : List ℕ
foobar_acc_two = hex 0x1_68_74_74_70_3a_2f_2f_66_6f_6f_62_61_72_2e_63_6f_6d_2f_61_63_63_32

-- http://foobar.com/acc3
abbrev pub foobar_acc_three : List ℕ
foobar_acc_three = hex 0x1_68_74_74_70_3a_2f_2f_66_6f_6f_62_61_72_2e_63_6f_6d_2f_61_63_63_33

-- No comments!
abbrev pub no_comments : List ℕ
no_comments = hex 0x1_4e_6f_20_63_6f_6d_6d_65_6e_74_73_21

-- US-ASCII
abbrev pub us_ascii : List ℕ
us_ascii = hex 0x1_55_53_2d_41_53_43_49_49

-- intendedreceiver@foobar.com
abbrev pub intended : List ℕ
intended = hex 0x1_69_6e_74_65_6e_64_65_64_72_65_63_65_69_76_65_72_40_66_6f_6f_62_61_72_2e_63_6f_6d
