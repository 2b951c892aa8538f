-- The list that a newsroom stands for.
use Rattle.news_types.specs.History.{History}
use Rattle.newsroom.specs.Stands.{StandsFor}
use Rattle.newsroom.specs.declared.newsroom.Newsroom.{Newsroom}

-- it stands for some list
abbrev pub SomeList : Newsroom → Type 0
SomeList n = (h : History) × StandsFor n h
