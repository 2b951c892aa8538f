use Rattle.std.proofs.Common.{◌^◌}
use Rattle.std.specs.Int.{w16, w32, w64}
use Rattle.byte_formats.proofs.Fields.{ranged_lawful}
use Rattle.byte_formats.proofs.Numbers.{wide16, wide32, wide64, whole_lawful, upto_lawful, free_lawful}
use Rattle.byte_formats.proofs.Names.{name_lawful}
use Rattle.byte_formats.proofs.Texts.{text_lawful}
use Rattle.byte_formats.proofs.Options.{flag_lawful}
use Rattle.byte_formats.proofs.Words.{word_lawful, literal_lawful}
use Rattle.byte_formats.proofs.Numerals.{numeral_lawful}
use Rattle.byte_formats.proofs.Varints.{varint_lawful}
use Rattle.byte_formats.proofs.law.fields_law.Goals as goal

pub returns : goal.returns
returns c = record {
  bytes = ranged_lawful;
  u32 = whole_lawful w32 (2 ^ 32) wide32;
  u64 = whole_lawful w64 (2 ^ 64) wide64;
  u16_upto = λ most fits. upto_lawful w16 (2 ^ 16) most wide16 fits;
  u32_upto = λ most fits. upto_lawful w32 (2 ^ 32) most wide32 fits;
  u64_upto = λ most fits. upto_lawful w64 (2 ^ 64) most wide64 fits;
  varints = varint_lawful;
  flags = flag_lawful;
  names = name_lawful;
  texts = text_lawful;
  pieces = free_lawful;
  words = word_lawful;
  literals = literal_lawful;
  numerals = numeral_lawful;
}
