use Rattle.std.proofs.Common.{◌≡◌, ◌-◌, drop}
use Rattle.news_journal.specs.Damage.{misfit, header_damage}
use Rattle.news_journal.proofs.heading.damage_of_header.Given as goal

abbrev pub invariant-loop-place : goal.invariant-loop-place
invariant-loop-place l = header_damage l.bytes ≡ misfit l.kind l.place l.before (64 - l.place) (drop l.place l.bytes)
