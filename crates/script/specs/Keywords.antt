-- How the keywords are written: in lower case only.
use Rattle.std.specs.Prelude.{ℕ, List, codes}
use Rattle.script.specs.declared.keyword.Keyword.{Keyword}

abbrev pub spelling : Keyword → List ℕ
spelling Keyword.Scheme = codes "scheme"
spelling Keyword.List = codes "list"
spelling Keyword.Store = codes "store"
spelling Keyword.Filter = codes "filter"
spelling Keyword.Open = codes "open"
spelling Keyword.Request = codes "request"
spelling Keyword.Rule = codes "rule"
spelling Keyword.State = codes "state"
spelling Keyword.Check = codes "check"
spelling Keyword.Make = codes "make"
spelling Keyword.Table = codes "table"
