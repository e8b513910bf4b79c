-- The history of a store.
use Rattle.platform.specs.declared.store.Store.{Store}
use Rattle.platform.specs.History.{History}
use Rattle.platform.specs.Told.{history_of}

-- what its log tells
abbrev pub store_history : Store → History
store_history store = history_of store.medium store.cell store.log.items store.logged
