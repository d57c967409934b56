-- The abstract values of a database and of an iterator over names.
use Rattle.std.specs.Prelude.{ℕ, List, drop}
use Rattle.const_oid.specs.declared.database.Database.{Database}
use Rattle.const_oid.specs.declared.database.Names.{Names}
use Rattle.const_oid.specs.Names.{Entry, names_of}

-- The entries of a database.
abbrev pub entries_of : Database → List Entry
entries_of database = database.entries.now

-- The names that an iterator will still return.
abbrev pub remaining_names : Names → List (List ℕ)
remaining_names names = names_of names.oid (drop names.passed names.entries.now)
