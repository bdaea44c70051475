-- `codes::begun`: by the form of the value.
use mathlib.Core.Path.{refl, ap}
use native.Mathlib.Omega.{arith}
use Rattle.meaning.specs.Bytes.{one_byte, two_bytes, four_bytes}
use Rattle.moves.specs.Words.{form_of}
use Rattle.plain.proofs.Coding.{takes_text, takes_date, takes_number, takes_block, coded_itself, coded_opens}
use Rattle.plain.proofs.codes.begun.Goals as goal

pub returns-in-Text : goal.returns-in-Text
returns-in-Text c = λ t s r flat here. takes_text t s c.args.at r here flat _ c.in-Text.is

pub returns-in-Date : goal.returns-in-Date
returns-in-Date c = λ t s r flat here. takes_date t s c.args.at r here flat _ _ c.in-Date.is

pub returns-in-Number : goal.returns-in-Number
returns-in-Number c = λ t s r flat here. takes_number t s c.args.at r here flat c.in-Number.is

pub returns-in-OneByte : goal.returns-in-OneByte
returns-in-OneByte c = λ t s r flat here. takes_block t s c.args.at r here flat one_byte 1 refl refl (omega arith) (ap form_of c.in-OneByte.is) c.length_of_bytes.ensures

pub returns-in-TwoBytes : goal.returns-in-TwoBytes
returns-in-TwoBytes c = λ t s r flat here. takes_block t s c.args.at r here flat two_bytes 2 refl refl (omega arith) (ap form_of c.in-TwoBytes.is) c.length_of_bytes-in-TwoBytes.ensures

pub returns-in-FourBytes : goal.returns-in-FourBytes
returns-in-FourBytes c = λ t s r flat here. takes_block t s c.args.at r here flat four_bytes 4 refl refl (omega arith) (ap form_of c.in-FourBytes.is) c.length_of_bytes-in-FourBytes.ensures

pub returns-in-Itself : goal.returns-in-Itself
returns-in-Itself c = λ t s r flat here. coded_itself t s c.args.at r here flat c.in-Itself.is

pub returns-in-Opens : goal.returns-in-Opens
returns-in-Opens c = λ t s r flat here. coded_opens t s c.args.at r here flat c.in-Opens.is
