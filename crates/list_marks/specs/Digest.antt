-- The digest of the first entries of a list.
use Rattle.std.specs.Prelude.{◌≡◌, ◌⊎◌, ◌<◌, ◌≤◌, ℕ, [], ◌∷◌, ◌++◌, length, take, codes, decimal}
use Rattle.std.specs.List.{flat_map}
use Rattle.hex.specs.Hex.{encode_lower}
use Rattle.sha2.specs.Sha256.{sha256}
use Rattle.news_types.specs.Names.{Bytes}
use Rattle.news_types.specs.History.{History}
use Rattle.news_types.specs.Doubt.{payloads}
use Rattle.news_io.specs.Sink.{SinkMeaning}
use Rattle.byte_formats.specs.Spelling.{text}
use Rattle.entry_codec.specs.Spelling.{entry_bytes}
use Rattle.run_status.specs.declared.status.Status.{Status}
use Rattle.room_reports.specs.Written.{IsWrittenOut, IsStopped}

-- what is hashed: the bytes of each of the first so many entries, oldest first, behind four bytes of their length
abbrev pub hashed : ℕ → History → Bytes
hashed n h = flat_map text (take n (payloads entry_bytes h))

-- the line of a digest of so many entries
abbrev pub line_of : ℕ → Bytes → Bytes
line_of n digest = codes "entries " ++ decimal n ++ codes " sha256 " ++ encode_lower digest ++ 10 ∷ []

-- the line of the digest of the first so many entries of the list
abbrev pub digest_line : ℕ → History → Bytes
digest_line n h = line_of n (sha256 (hashed n h))

module _ {O : Type 0} (sink : SinkMeaning O) (entries : ℕ) (h : History) (o o' : O) (status : ℕ) where
  -- the list has not so many entries
  pub record HasFewer : Type 0 where
    pub fewer : length h < entries
    pub stopped : IsStopped sink Status.WrongStore o o' status

  -- it has them, and the line of their digest was written, as far as the output allowed it; no memory was asked for
  pub record HasDigest : Type 0 where
    pub enough : entries ≤ length h
    pub told : IsWrittenOut sink (digest_line entries h) o o' status
    pub memory : status ≡ 9 → ⊥

  abbrev pub IsDigest : Type 0
  IsDigest = HasFewer ⊎ HasDigest
