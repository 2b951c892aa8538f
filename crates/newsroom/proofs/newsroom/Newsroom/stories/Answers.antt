use Rattle.newsroom.proofs.newsroom.Newsroom.stories.Goals as goal

pub returns-clause-keeps : goal.returns-clause-keeps
returns-clause-keeps c h stands = stands.stories

pub returns-clause-place : goal.returns-clause-place
returns-clause-place c some = (some.0, (some.1.0.stories, some.1.0.legal, some.1.1))
