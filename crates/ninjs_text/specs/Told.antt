-- What a written publication says to who reads it.
use Rattle.std.specs.Prelude.{min, []}
use Rattle.news_types.specs.declared.story.Incoming.{Incoming}
use Rattle.news_types.specs.declared.query.Publication.{Publication}
use Rattle.news_types.specs.declared.words.PubStatus.{PubStatus}
use Rattle.news_types.specs.declared.words.PubStatus.TheVariants as status
use Rattle.news_types.specs.declared.words.Kind.{Kind}
use Rattle.news_types.specs.declared.words.Kind.TheVariants as kind
use Rattle.news_types.specs.Names.{Bytes}
use Rattle.release_rules.specs.Civil.{last_moment}

abbrev pub told_status : Kind → PubStatus
told_status kind.First = status.Usable
told_status kind.Correct = status.Usable
told_status kind.Kill = status.Canceled
told_status kind.Recall = status.Canceled

-- the story without its category, made at its release
abbrev pub told : Publication → Bytes → Incoming
told publication uri = record {
  identity = uri;
  created = min publication.release last_moment;
  embargo = 0;
  status = told_status publication.kind;
  story = record publication.story { category = [] };
}
