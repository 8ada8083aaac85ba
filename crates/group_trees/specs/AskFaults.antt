-- A document's fault, or one of trees, as one of both.
use Rattle.plan_doc.specs.declared.fault.DocFault.{DocFault}
use Rattle.plan_doc.specs.declared.fault.DocFault.TheVariants as doc
use Rattle.group_trees.specs.declared.fault.ForestFault.{ForestFault}
use Rattle.group_trees.specs.declared.fault.ForestFault.TheVariants as trees
use Rattle.group_trees.specs.declared.asked.AskFault.{AskFault}
use Rattle.group_trees.specs.declared.asked.AskFault.TheVariants.{Document, Forest, NoMemory}

-- want of memory stays what it is
abbrev pub ask_of_document : DocFault → AskFault
ask_of_document doc.NoMemory = NoMemory
ask_of_document fault = Document fault

-- a fault of trees, as one of both; want of memory stays what it is
abbrev pub ask_of_forest : ForestFault → AskFault
ask_of_forest trees.NoMemory = NoMemory
ask_of_forest fault = Forest fault
