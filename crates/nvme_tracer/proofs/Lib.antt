mod PlainLines
mod WrittenJson
mod ShortLines
mod ReadLines
mod TracedLines
mod AccountedSettings
mod TraceLaws
