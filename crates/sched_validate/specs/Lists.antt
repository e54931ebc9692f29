-- The entries of a table by their kinds, each kind in order.
use Rattle.std.specs.Prelude.{List, Some, None}
use Rattle.std.specs.List.{filter_map}
use Rattle.std.specs.declared.option.Option.{Option}
use Rattle.sched_resolve.specs.declared.entry.Entry.{Entry}
use Rattle.sched_resolve.specs.declared.entry.Entry.TheVariants as entry
use Rattle.sched_resolve.specs.declared.entry.Model.{Model}
use Rattle.sched_resolve.specs.declared.entry.File.{File}
use Rattle.sched_resolve.specs.declared.entry.Queue.{Queue}
use Rattle.sched_resolve.specs.declared.entry.Retirement.{Retirement}
use Rattle.sched_resolve.specs.declared.entry.Rewrite.{Rewrite}

abbrev pub model_in : Entry → Option Model
model_in (entry.Model m) = Some m
model_in _ = None

abbrev pub file_in : Entry → Option File
file_in (entry.File f) = Some f
file_in _ = None

abbrev pub retirement_in : Entry → Option Retirement
retirement_in (entry.Retirement r) = Some r
retirement_in _ = None

abbrev pub load_queue_in : Entry → Option Queue
load_queue_in (entry.LoadQueue q) = Some q
load_queue_in _ = None

abbrev pub store_queue_in : Entry → Option Queue
store_queue_in (entry.StoreQueue q) = Some q
store_queue_in _ = None

abbrev pub rewrite_in : Entry → Option Rewrite
rewrite_in (entry.Rewrite r) = Some r
rewrite_in _ = None

abbrev pub models_of : List Entry → List Model
models_of es = filter_map model_in es

abbrev pub files_of : List Entry → List File
files_of es = filter_map file_in es

abbrev pub retirements_of : List Entry → List Retirement
retirements_of es = filter_map retirement_in es

abbrev pub load_queues_of : List Entry → List Queue
load_queues_of es = filter_map load_queue_in es

abbrev pub store_queues_of : List Entry → List Queue
store_queues_of es = filter_map store_queue_in es

abbrev pub rewrites_of : List Entry → List Rewrite
rewrites_of es = filter_map rewrite_in es
