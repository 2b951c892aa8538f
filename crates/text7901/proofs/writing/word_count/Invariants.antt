use Rattle.std.proofs.Common.{◌≡◌, ◌≤◌, ◌+◌, drop, false}
use Rattle.text7901.specs.Written.{words_from}
use Rattle.text7901.proofs.writing.word_count.Given as goal

abbrev pub invariant-loop-byte : goal.invariant-loop-byte
invariant-loop-byte l = record {
  few : l.count ≤ l.byte-index;
  words : l.count + words_from l.inside (drop l.byte-index l.bytes) ≡ words_from false l.bytes;
}
