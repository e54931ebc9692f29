-- What is known of the names of a table: each map has the places of the names of its name space.
use Rattle.sched_resolve.specs.declared.name_space.NameSpace.TheVariants as space
use Rattle.sched_resolve.specs.declared.names.Names.TheInside.{Inside}
use Rattle.sched_resolve.specs.Places.{HasPlaces}

pub record AreKnown (i : Inside) : Type 0 where
  pub models : HasPlaces space.Model i.records.now i.models
  pub resources : HasPlaces space.Resource i.records.now i.resources
  pub own : HasPlaces space.OwnWrite i.records.now i.own
  pub written : HasPlaces space.WrittenClass i.records.now i.written
  pub reads : HasPlaces space.Read i.records.now i.reads
