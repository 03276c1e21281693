-- Loads depend only on the modules from the named one to the end of the list.
use Rattle.meaning.specs.Loads.{loads_inside, largest_load}
use Rattle.laws.specs.Suffix.{Searches}

pub loads_inside_searches : Searches loads_inside
unfolding loads_inside
loads_inside_searches = record { passes = λ m ms number h. rw h }

pub largest_load_searches : Searches largest_load
unfolding largest_load
largest_load_searches = record { passes = λ m ms number h. rw h }
