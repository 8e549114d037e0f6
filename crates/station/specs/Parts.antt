-- The whole box of the model that wires and words stand for. Assumes nothing.
use Rattle.hello.specs.State.{links_of}
use Rattle.hello.specs.declared.state.Links.{Links}
use Rattle.router.specs.State.{box_of}
use Rattle.router.specs.declared.state.Router.{Router}
use Rattle.linkmodel.specs.Station.{Station}

abbrev pub parts_of : Links → Router → Station
parts_of l r = record { links = links_of l; box = box_of r }
