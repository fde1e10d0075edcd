mod Configurations
mod Queues
mod Refusals
mod FlaggedEntries
mod SlotsOfTags
mod Repeats
